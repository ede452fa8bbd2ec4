use Rattle.std.proofs.Common.{◌≡◌, refl, rules, sym, ◌∙◌}
use Rattle.std.proofs.lemmas.Bool.{ne_eqb}
use Rattle.refusal.specs.Choice.{pick}
use Rattle.refusal.specs.ChoiceLaws.{pick_on}
use Rattle.money.specs.Range.{magnitude_of}
use Rattle.money.specs.Facts.{back}
use Rattle.installments.specs.Sums as Sums
use Rattle.installments.specs.Even.{even}
use Rattle.installments.specs.Flat.{flat, total_of}
use Rattle.installments.specs.Falling.{falling}
use Rattle.installments.specs.Arguments.{total_if}
use Rattle.installments.specs.ArgumentLaws.{answers}
use Rattle.terms.specs.Schedule.{installments_of, kept_installments}
use Rattle.terms.specs.Laws.{made_in_lem, kept_terms, even_ok_lem, falling_ok_lem, flat_ok_lem, total_ok}
use Rattle.terms.proofs.due_of.Goals as goal

pub returns-then-not-kept : goal.returns-then-not-kept
unfolding installments_of
returns-then-not-kept c =
    let a = c.args in
    let s = a.s in
    let q : c.magnitude-installment.result ≡ magnitude_of s.installment = simp (back s.installment (search rules)) at c.magnitude-installment.ensures in
    let e = even_ok_lem s (made_in_lem a.kept s c.requires.s_value) a.elapsed a.repaid c.requires.elapsed_le_count c.requires.repaid_bound in
    c.even_due.ensures ∙ rw (q, c.if-not-kept.true) (sym (answers {d = Sums.due_of (even s.count (magnitude_of s.installment)) a.elapsed a.repaid} e refl))

pub returns-then-s-eq-FALLING : goal.returns-then-s-eq-FALLING
unfolding installments_of kept_installments pick
returns-then-s-eq-FALLING c =
    let a = c.args in
    let s = a.s in
    let m : c.magnitude-amount.result ≡ magnitude_of s.amount = simp (back s.amount (search rules)) at c.magnitude-amount.ensures in
    let k = kept_terms s a.kept c.if-not-kept.false c.requires.s_value in
    let e = falling_ok_lem s (made_in_lem a.kept s c.requires.s_value) a.elapsed a.repaid c.requires.elapsed_le_count c.requires.repaid_bound k in
    c.falling_due.ensures
    ∙ rw (m, c.if-not-kept.false, c.if-s-eq-FALLING.true) (sym (answers {d = Sums.due_of (falling (magnitude_of s.amount) s.rate s.count) a.elapsed a.repaid} e refl))

pub returns-else-s-eq-FALLING : goal.returns-else-s-eq-FALLING
unfolding installments_of kept_installments pick total_if
returns-else-s-eq-FALLING c =
    let a = c.args in
    let s = a.s in
    let q : c.magnitude-installment.result ≡ magnitude_of s.installment = simp (back s.installment (search rules)) at c.magnitude-installment.ensures in
    let m : c.magnitude-amount.result ≡ magnitude_of s.amount = simp (back s.amount (search rules)) at c.magnitude-amount.ensures in
    let k = kept_terms s a.kept c.if-not-kept.false c.requires.s_value in
    let n = ne_eqb s.kind 1 c.if-s-eq-FALLING.false in
    let t : c.total.result ≡ total_of (magnitude_of s.amount) s.rate = c.total.ensures ∙ rw m (pick_on _ _ (total_ok s k)) in
    let e = flat_ok_lem s (made_in_lem a.kept s c.requires.s_value) a.elapsed a.repaid c.requires.elapsed_le_count c.requires.repaid_bound k n in
    c.flat_due.ensures
    ∙ rw (q, t, c.if-not-kept.false, n) (sym (answers {d = Sums.due_of (flat s.count (magnitude_of s.installment) (total_of (magnitude_of s.amount) s.rate)) a.elapsed a.repaid} e refl))
