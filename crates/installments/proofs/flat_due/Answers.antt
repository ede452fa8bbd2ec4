use Rattle.std.proofs.Common.{◌≡◌, arith, sym, ◌∙◌, le-leb}
use Rattle.std.proofs.lemmas.Bool.{lt-leb}
use Rattle.refusal.specs.ChoiceLaws.{pick_on, pick_off}
use Rattle.installments.specs.Sums.{due_of}
use Rattle.installments.specs.Flat.{flat, flat_due, flat_after}
use Rattle.installments.specs.FlatLaws.{flat_unpaid, flat_due_lem}
use Rattle.installments.specs.Arguments.{due_as}
use Rattle.installments.specs.ArgumentLaws.{flat_in, answers}
use Rattle.installments.proofs.flat_due.Goals as goal

pub flat_paid-settled-requires-clause-le_count : goal.flat_paid-settled-requires-clause-le_count
flat_paid-settled-requires-clause-le_count c = let g = flat_in _ _ _ _ _ (sym c.flat_ok.ensures ∙ c.if-not-flat_ok.false) in omega arith

pub flat_paid-settled-requires-clause-installment_nonzero : goal.flat_paid-settled-requires-clause-installment_nonzero
flat_paid-settled-requires-clause-installment_nonzero c = let g = flat_in _ _ _ _ _ (sym c.flat_ok.ensures ∙ c.if-not-flat_ok.false) in omega arith

pub returns-then-elapsed-settled : goal.returns-then-elapsed-settled
unfolding due_as flat_due flat_after
returns-then-elapsed-settled c =
    let a = c.args in
    let h = sym c.flat_ok.ensures ∙ c.if-not-flat_ok.false in
    let g = flat_in _ _ _ _ _ h in
    answers h (flat_due_lem a.count a.installment a.total g.even.due.count_low (omega arith) a.elapsed a.repaid g.even.low g.even.due.elapsed_high ∙ pick_on _ _ (le-leb _ _ (omega arith)))

pub flat_sum-requires-clause-count_bound : goal.flat_sum-requires-clause-count_bound
flat_sum-requires-clause-count_bound c = let g = flat_in _ _ _ _ _ (sym c.flat_ok.ensures ∙ c.if-not-flat_ok.false) in omega arith

pub flat_sum-requires-clause-installment_bound : goal.flat_sum-requires-clause-installment_bound
flat_sum-requires-clause-installment_bound c = let g = flat_in _ _ _ _ _ (sym c.flat_ok.ensures ∙ c.if-not-flat_ok.false) in omega arith

pub overflow_sub-result : goal.overflow_sub-result
overflow_sub-result c =
    let a = c.args in
    let g = flat_in _ _ _ _ _ (sym c.flat_ok.ensures ∙ c.if-not-flat_ok.false) in
    let e = c.flat_paid-settled.ensures in
    let u = flat_unpaid a.count a.installment a.total g.even.due.count_low (omega arith) a.repaid g.even.low (omega arith) in
    rw (c.flat_sum.ensures, e) (omega arith)

pub returns : goal.returns
unfolding due_as flat_due flat_after
returns c =
    let a = c.args in
    let h = sym c.flat_ok.ensures ∙ c.if-not-flat_ok.false in
    let g = flat_in _ _ _ _ _ h in
    let e : due_of (flat a.count a.installment a.total) a.elapsed a.repaid ≡ flat_after a.count a.installment a.total a.elapsed a.repaid c.flat_paid-settled.result =
    rw c.flat_paid-settled.ensures (flat_due_lem a.count a.installment a.total g.even.due.count_low (omega arith) a.elapsed a.repaid g.even.low g.even.due.elapsed_high) in
    rw c.flat_sum.ensures (answers h (e ∙ pick_off _ _ (lt-leb _ _ (omega arith))))
