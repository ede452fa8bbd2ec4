use Rattle.std.proofs.Common.{sym, ◌∙◌}
use Rattle.refusal.specs.ChoiceLaws.{on}
use Rattle.installments.specs.Arguments.{first_if}
use Rattle.installments.specs.ArgumentLaws.{falling_in}
use Rattle.installments.specs.FallingLaws.{falling_member_lem}
use Rattle.installments.proofs.falling_first.Goals as goal

pub returns-then-falling_ok : goal.returns-then-falling_ok
unfolding first_if
returns-then-falling_ok c =
    let h = sym c.falling_ok.ensures ∙ c.if-falling_ok.true in
    on _ h (c.falling_member.ensures ∙ sym (falling_member_lem _ _ _ 0 (falling_in _ _ _ _ _ h).due.count_low))
