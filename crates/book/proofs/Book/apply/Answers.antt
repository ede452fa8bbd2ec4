use Rattle.std.proofs.Common.{refl, sym, ◌∙◌}
use Rattle.refusal.specs.ChoiceLaws.{on, off}
use Rattle.book.specs.Stored.{answers}
use Rattle.book.specs.Turning.{stepped_by}
use Rattle.book.proofs.Book.apply.Goals as goal

pub returns-then-not-sound : goal.returns-then-not-sound
unfolding answers
returns-then-not-sound c = rw c.number.ensures (off _ (sym c.sound.ensures.tested ∙ c.if-not-sound.true) refl)

pub returns : goal.returns
unfolding answers
returns c = on _ (sym c.sound.ensures.tested ∙ c.if-not-sound.false) (stepped_by c.args.self c.args.c c.number_of-answer.ensures c.obey.ensures.answer c.obey.ensures.book)
