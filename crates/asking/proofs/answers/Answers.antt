use Rattle.std.proofs.Common.{◌∙◌, refl, sym}
use Rattle.refusal.specs.ChoiceLaws.{on, off}
use Rattle.asking.specs.Questions.{told_for, left_by}
use Rattle.asking.proofs.answers.Goals as goal

pub returns-then-not-sound : goal.returns-then-not-sound
unfolding told_for left_by
returns-then-not-sound c = let e = sym c.sound.ensures.tested ∙ c.if-not-sound.true in (off _ e refl, off _ e refl)

pub returns : goal.returns
unfolding told_for left_by
returns c =
    let e = sym c.sound.ensures.tested ∙ c.if-not-sound.false in
    (on _ e (c.said.ensures ∙ c.answers_sound.ensures.0), on _ e c.answers_sound.ensures.1)
