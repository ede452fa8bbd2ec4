-- What holds of installments that are all the same: the due rule over them is document 01's. Assumes nothing.
use Rattle.std.specs.Prelude.{ℕ, zero, suc, ◌+◌, ◌-◌, ◌*◌, ◌/◌, ◌≤◌, ◌<◌, ◌≡◌, leb, length, get_or}
use Rattle.std.proofs.Common.{div-mul-le_self, mul-le-mul_right, arith, ◌∙◌, le-leb}
use Rattle.std.proofs.Math.Nat.{lt-div-mul-add}
use Rattle.std.proofs.Math.Decide.{dec_le}
use Rattle.std.proofs.lemmas.List.{length-replicate, get_or-replicate}
use Rattle.std.proofs.lemmas.Bool.{lt-leb}
use Rattle.refusal.specs.Choice.{pick}
use Rattle.refusal.specs.ChoiceLaws.{on, off}
use Rattle.installments.specs.Sums.{sum_to, number_due, due_of}
use Rattle.installments.specs.SumLaws.{Positive, sum-zero, sum_suc, number-none, number_next, due_none, due_next}
use Rattle.installments.specs.Even.{even, by_quotient, even_due}

pub even_length : (count x : ℕ) → length (even count x) ≡ count
unfolding even
even_length count x = length-replicate count x

pub even_member : (count x k : ℕ) → k < count → get_or (even count x) k 0 ≡ x
unfolding even
even_member count x k h = get_or-replicate count k x 0 h

pub even_positive : (count x : ℕ) → 0 < x → Positive (even count x)
even_positive count x p = record { member = λ k h. rw (even_member count x k (omega (arith, even_length count x))) p }

-- the sum up to an installment is as many times x
pub even_sum : (count x k : ℕ) → k ≤ count → sum_to k (even count x) ≡ k * x
even_sum count x zero h = sum-zero (even count x) ∙ (omega arith)
even_sum count x (suc k) h =
    omega (arith, even_sum count x k (omega arith), sum_suc k (even count x) (omega (arith, even_length count x)), even_member count x k h)

-- a quotient's share of what is divided, and what lies past it
pub quotient_low : (r x k : ℕ) → k ≤ r / x → k * x ≤ r
quotient_low r x k h = omega (arith, mul-le-mul_right x h, div-mul-le_self r x)

pub quotient_high : (r x : ℕ) → 0 < x → r < suc (r / x) * x
quotient_high r x p = omega (arith, lt-div-mul-add {a = r} p)

-- over installments that are all the same the due rule is the old one
pub even_number : (count x elapsed r : ℕ) → 0 < x → elapsed ≤ count → number_due (even count x) elapsed r ≡ by_quotient x elapsed r
unfolding by_quotient
even_number count x elapsed r p h = by (dec_le elapsed (r / x))
  where
    fits : elapsed ≤ length (even count x)
    fits = omega (arith, even_length count x)

    by : Dec (elapsed ≤ r / x) → number_due (even count x) elapsed r ≡ pick (leb elapsed (r / x)) 0 (r / x + 1)
    by (yes m) =
        let low = quotient_low r x elapsed m in
        on _ (le-leb elapsed (r / x) m) (number-none (even count x) elapsed r fits (omega (arith, even_sum count x elapsed h)))
    by (no m) =
        let e = number_next (even count x) elapsed r (r / x) fits (omega arith) (omega (arith, even_sum count x (r / x) (omega arith), div-mul-le_self r x)) (omega (arith, even_sum count x (suc (r / x)) (omega arith), quotient_high r x p)) in
        off _ (lt-leb elapsed (r / x) (omega arith)) (omega arith)

pub even_due_lem : (count x elapsed r : ℕ) → 0 < x → elapsed ≤ count → due_of (even count x) elapsed r ≡ even_due x elapsed r
unfolding even_due
even_due_lem count x elapsed r p h = by (dec_le elapsed (r / x))
  where
    fits : elapsed ≤ length (even count x)
    fits = omega (arith, even_length count x)

    by : Dec (elapsed ≤ r / x) → due_of (even count x) elapsed r ≡ pick (leb elapsed (r / x)) (0, 0) (r / x + 1, (r / x + 1) * x - r)
    by (yes m) =
        let low = quotient_low r x elapsed m in
        on _ (le-leb elapsed (r / x) m) (due_none (even count x) elapsed r fits (omega (arith, even_sum count x elapsed h)))
    by (no m) =
        let sum = even_sum count x (suc (r / x)) (omega arith) in
        let e : suc (r / x) ≡ r / x + 1 = omega arith in
        off _ (lt-leb elapsed (r / x) (omega arith))
        (rw (e, even_sum count x (r / x + 1) (omega arith)) at (due_next (even count x) elapsed r (r / x) fits (omega arith) (omega (arith, even_sum count x (r / x) (omega arith), div-mul-le_self r x)) (omega (arith, sum, quotient_high r x p))))
