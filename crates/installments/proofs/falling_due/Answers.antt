use Rattle.std.proofs.Common.{◌≡◌, ◌+◌, suc, arith, add-one, sym, ◌∙◌}
use Rattle.installments.specs.Sums.{sum_to}
use Rattle.installments.specs.SumLaws.{sum-zero, sum-le, due_none, due_next}
use Rattle.installments.specs.Falling.{falling}
use Rattle.installments.specs.FallingLaws.{falling_length, falling_next, member_le}
use Rattle.installments.specs.Arguments.{due_as}
use Rattle.installments.specs.ArgumentLaws.{falling_in, answers}
use Rattle.installments.proofs.falling_due.Goals as goal

pub loop-i-init : goal.loop-i-init
loop-i-init c = record { so_far = sym (sum-zero _); paid = omega arith }

pub falling_member-sum-requires : goal.falling_member-sum-requires
falling_member-sum-requires c = let g = falling_in _ _ _ _ _ (sym c.falling_ok.ensures ∙ c.if-not-falling_ok.false) in omega arith

pub overflow_add-sum : goal.overflow_add-sum
overflow_add-sum c =
    let a = c.args in
    let g = falling_in _ _ _ _ _ (sym c.falling_ok.ensures ∙ c.if-not-falling_ok.false) in
    let m = member_le a.amount a.rate a.count g.due.count_low g.terms.amount_high g.terms.rate_high c.loop-i.i in
    record { fits = omega (arith, c.falling_member-sum.ensures) }

pub returns-then-repaid-sum : goal.returns-then-repaid-sum
unfolding due_as
returns-then-repaid-sum c =
    let a = c.args in
    let i = c.loop-i.i in
    let h = sym c.falling_ok.ensures ∙ c.if-not-falling_ok.false in
    let g = falling_in _ _ _ _ _ h in
    let size = falling_length a.amount a.rate a.count in
    let e : c.loop-i.sum + c.falling_member-sum.result ≡ sum_to (suc i) (falling a.amount a.rate a.count) =
    omega (arith, c.falling_member-sum.ensures, falling_next a.amount a.rate a.count i (omega arith)) in
    rw (e, add-one i) (answers h (due_next (falling a.amount a.rate a.count) a.elapsed a.repaid i (omega arith) (omega arith) (omega arith) (omega arith)))

pub loop-i-preserved : goal.loop-i-preserved
loop-i-preserved c =
    let a = c.args in
    let i = c.loop-i.i in
    let g = falling_in _ _ _ _ _ (sym c.falling_ok.ensures ∙ c.if-not-falling_ok.false) in
    let e = falling_next a.amount a.rate a.count i (omega arith) in
    record { so_far = rw (add-one i) (omega (arith, c.falling_member-sum.ensures)); paid = omega arith }

pub returns : goal.returns
unfolding due_as
returns c =
    let a = c.args in
    let h = sym c.falling_ok.ensures ∙ c.if-not-falling_ok.false in
    let g = falling_in _ _ _ _ _ h in
    let size = falling_length a.amount a.rate a.count in
    answers h (due_none (falling a.amount a.rate a.count) a.elapsed a.repaid (omega arith) (omega (arith, sum-le a.elapsed c.loop-i.i (falling a.amount a.rate a.count) (omega arith))))
