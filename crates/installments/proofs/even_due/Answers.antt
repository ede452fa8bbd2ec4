use Rattle.std.specs.Prelude.{◌/◌, ◌+◌}
use Rattle.std.proofs.Common.{arith, sym, ◌∙◌, le-leb}
use Rattle.std.proofs.lemmas.Bool.{lt-leb}
use Rattle.refusal.specs.ChoiceLaws.{pick_on, pick_off}
use Rattle.installments.specs.Even.{even_due}
use Rattle.installments.specs.EvenLaws.{even_due_lem, quotient_high}
use Rattle.installments.specs.Arguments.{due_as}
use Rattle.installments.specs.ArgumentLaws.{even_in, times_le, answers}
use Rattle.installments.proofs.even_due.Goals as goal

pub nonzero_div-paid : goal.nonzero_div-paid
nonzero_div-paid c = let g = even_in _ _ _ _ (sym c.even_ok.ensures ∙ c.if-not-even_ok.false) in omega arith

pub returns-then-elapsed-paid : goal.returns-then-elapsed-paid
unfolding due_as even_due
returns-then-elapsed-paid c =
    let a = c.args in
    let h = sym c.even_ok.ensures ∙ c.if-not-even_ok.false in
    let g = even_in _ _ _ _ h in
    answers h (even_due_lem a.count a.installment a.elapsed a.repaid g.low g.due.elapsed_high ∙ pick_on _ _ (le-leb a.elapsed (a.repaid / a.installment) (omega arith)))

pub overflow_mul-result : goal.overflow_mul-result
overflow_mul-result c =
    let a = c.args in
    let g = even_in _ _ _ _ (sym c.even_ok.ensures ∙ c.if-not-even_ok.false) in
    record { fits = omega (arith, times_le (a.repaid / a.installment + 1) a.installment (omega arith) g.high) }

pub overflow_sub-result : goal.overflow_sub-result
overflow_sub-result c =
    let a = c.args in
    let g = even_in _ _ _ _ (sym c.even_ok.ensures ∙ c.if-not-even_ok.false) in
    omega (arith, quotient_high a.repaid a.installment g.low)

pub returns : goal.returns
unfolding due_as even_due
returns c =
    let a = c.args in
    let h = sym c.even_ok.ensures ∙ c.if-not-even_ok.false in
    let g = even_in _ _ _ _ h in
    answers h (even_due_lem a.count a.installment a.elapsed a.repaid g.low g.due.elapsed_high ∙ pick_off _ _ (lt-leb a.elapsed (a.repaid / a.installment) (omega arith)))
