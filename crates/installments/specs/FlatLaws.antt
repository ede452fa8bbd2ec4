-- What the flat installments come to, and the due rule over them by division. Assumes nothing.
use Prim.Native.Nat.{ℕ, zero, suc, ◌+◌, ◌-◌, ◌*◌, ◌/◌, ◌≤◌, ◌<◌, min}
use Rattle.std.proofs.Common.{le-div_iff_mul-le, div-mul-le_self, mul-le-mul_left, mul-le-mul_right, div-one, ap, ◌∙◌, length-append}
use Rattle.std.proofs.Math.Nat.{min-eq_left, min-eq_right}
use Rattle.std.proofs.Math.Decide.{dec_le}
use native.Mathlib.Omega.{arith}
use Rattle.std.proofs.Math.Path.{◌≡◌, sym}
use Rattle.std.specs.Prelude.{[], leb, ltb, get_or, replicate}
use Rattle.std.proofs.Math.ListN.{length, get_or-append}
use Rattle.std.proofs.lemmas.List.{length-replicate, get_or-replicate, get_or_at}
use borrow.Author.Tests.{le-leb, lt-leb, lt-ltb, le-ltb}
use Rattle.refusal.specs.Choice.{pick}
use Rattle.refusal.specs.ChoiceLaws.{on, off, pick_on}
use Rattle.installments.specs.Sums.{sum_to, sum_of, paid_of, due_of}
use Rattle.installments.specs.SumLaws.{Positive, sum-zero, sum_suc, sum_all, unpaid_sum, paid_is, due_paid}
use Rattle.installments.specs.EvenLaws.{quotient_low, quotient_high}
use Rattle.installments.specs.Flat.{total_of, part_of, flat, flat_sum, flat_paid, flat_after, flat_due}

-- as many as they are to be: all x but the last
pub flat_length : (count x total : ℕ) → 1 ≤ count → length (flat count x total) ≡ count
unfolding flat
flat_length count x total h = length-append (replicate (count - 1) x) _ ∙ omega (arith, length-replicate (count - 1) x)

pub flat_early : (count x total k : ℕ) → k < count - 1 → get_or (flat count x total) k 0 ≡ x
unfolding flat
flat_early count x total k h = get_or-append (replicate (count - 1) x) _ 0 k (omega (arith, length-replicate (count - 1) x)) ∙ get_or-replicate (count - 1) k x 0 h

pub flat_last : (count x total : ℕ) → get_or (flat count x total) (count - 1) 0 ≡ total - (count - 1) * x
unfolding flat
flat_last count x total = get_or_at (replicate (count - 1) x) _ [] 0 (count - 1) (length-replicate (count - 1) x)

-- the sum up to one that is not the last is as many times x; the sums end at the total
pub flat_sum_lem : (count x total k : ℕ) → k < count → sum_to k (flat count x total) ≡ k * x
flat_sum_lem count x total zero h = sum-zero (flat count x total) ∙ (omega arith)
flat_sum_lem count x total (suc k) h =
    omega (arith, flat_sum_lem count x total k (omega arith), sum_suc k (flat count x total) (omega (arith, flat_length count x total (omega arith))), flat_early count x total k (omega arith))

module _ (count x total : ℕ) (some : 1 ≤ count) (room : (count - 1) * x ≤ total) where
  pub flat_end : sum_to count (flat count x total) ≡ total
  flat_end =
      let last : suc (count - 1) ≡ count = omega arith in
      let e : sum_to (suc (count - 1)) (flat count x total) ≡ total =
      omega (arith, flat_sum_lem count x total (count - 1) (omega arith), sum_suc (count - 1) (flat count x total) (omega (arith, flat_length count x total some)), flat_last count x total) in
      rw last at e

  -- so no cent is lost
  pub flat_all : sum_of (flat count x total) ≡ total
  flat_all = sym (sum_all (flat count x total)) ∙ (ap (λ (n : ℕ). sum_to n (flat count x total)) (flat_length count x total some) ∙ flat_end)

  -- the sum up to each, by division
  pub flat_sum_is : (k : ℕ) → k ≤ count → sum_to k (flat count x total) ≡ flat_sum count x total k
  unfolding flat_sum
  flat_sum_is k h = by (dec_le (suc k) count)
    where
      by : Dec (k < count) → sum_to k (flat count x total) ≡ pick (ltb k count) (k * x) total
      by (yes m) = on _ (lt-ltb k count m) (flat_sum_lem count x total k m)
      by (no m) = let e : k ≡ count = omega arith in off _ (le-ltb k count (omega arith)) (ap (λ (n : ℕ). sum_to n (flat count x total)) e ∙ flat_end)

  -- and how many are paid
  pub flat_paid_lem : (r : ℕ) → 0 < x → paid_of (flat count x total) r ≡ flat_paid count x total r
  unfolding flat_paid
  flat_paid_lem r p = by (dec_le total r) (dec_le (r / x) (count - 1))
    where
      size : length (flat count x total) ≡ count
      size = flat_length count x total some

      by : Dec (total ≤ r) → Dec (r / x ≤ count - 1) → paid_of (flat count x total) r ≡ pick (leb total r) count (min (r / x) (count - 1))
      by (yes m) q = on _ (le-leb total r m) (paid_is (flat count x total) r count (omega (arith, size)) (omega (arith, flat_end)) (λ k. absurd (omega (arith, size))))
      by (no m) (yes q) =
          let low = flat_sum_lem count x total (r / x) (omega arith) in
          let share = quotient_low r x (r / x) (omega arith) in
          off _ (lt-leb total r (omega arith)) (paid_is (flat count x total) r (r / x) (omega (arith, size)) (omega arith) (λ k. next (dec_le (suc (suc (r / x))) count)) ∙ sym (min-eq_left q))
        where
          next : Dec (suc (r / x) < count) → r < sum_to (suc (r / x)) (flat count x total)
          next (yes k) = omega (arith, flat_sum_lem count x total (suc (r / x)) k, quotient_high r x p)
          next (no k) = let e : suc (r / x) ≡ count = omega arith in rw e (omega (arith, flat_end))
      by (no m) (no q) =
          let low = flat_sum_lem count x total (count - 1) (omega arith) in
          let share = quotient_low r x (count - 1) (omega arith) in
          let e : suc (count - 1) ≡ count = omega arith in
          off _ (lt-leb total r (omega arith)) (paid_is (flat count x total) r (count - 1) (omega (arith, size)) (omega arith) (λ k. rw e (omega (arith, flat_end))) ∙ sym (min-eq_right (omega arith)))

  -- the sum up to the next one is not repaid
  pub flat_unpaid : (r : ℕ) → 0 < x → flat_paid count x total r < count → r < flat_sum count x total (flat_paid count x total r + 1)
  flat_unpaid r p h =
      let e = flat_paid_lem r p in
      let n : suc (paid_of (flat count x total) r) ≡ flat_paid count x total r + 1 = omega arith in
      rw (n, flat_sum_is (flat_paid count x total r + 1) (omega arith)) at (unpaid_sum (flat count x total) r (omega (arith, flat_length count x total some)))

  -- what is due, by division
  pub flat_due_lem : (elapsed r : ℕ) → 0 < x → elapsed ≤ count → due_of (flat count x total) elapsed r ≡ flat_due count x total elapsed r
  unfolding flat_due flat_after
  flat_due_lem elapsed r p h = due_paid (flat count x total) elapsed r (flat_paid count x total r) (flat_paid_lem r p) ∙ by (flat_paid count x total r) (dec_le elapsed (flat_paid count x total r))
    where
      by : (n : ℕ) → Dec (elapsed ≤ n) → ◌≡◌ {A = ℕ × ℕ} (pick (leb elapsed n) (0, 0) (n + 1, sum_to (n + 1) (flat count x total) - r)) (pick (leb elapsed n) (0, 0) (n + 1, flat_sum count x total (n + 1) - r))
      by n (yes m) = let t = le-leb elapsed n m in pick_on _ _ t ∙ sym (pick_on _ _ t)
      by n (no m) = rw (flat_sum_is (n + 1) (omega arith))

  -- where the last is not 0 either, none is
  pub flat_positive : 0 < x → (count - 1) * x < total → Positive (flat count x total)
  flat_positive p more = record { member = λ k h. by k (omega (arith, flat_length count x total some)) (dec_le (suc k) (count - 1)) }
    where
      by : (k : ℕ) → k < count → Dec (k < count - 1) → 0 < get_or (flat count x total) k 0
      by k h (yes m) = rw (flat_early count x total k m) p
      by k h (no m) = let e : k ≡ count - 1 = omega arith in rw (e, flat_last count x total) (omega arith)

-- An installment is floored by itself and the total as a whole: together they are no more than the total
pub parts_fit : (amount rate count : ℕ) → count * part_of amount rate count ≤ total_of amount rate
unfolding part_of total_of
parts_fit amount rate count =
    let p = amount / count in
    let y = p * rate / 10000 in
    let e : count * p ≤ amount = omega (arith, div-mul-le_self amount count) in
    let f : y * 10000 ≤ p * rate = div-mul-le_self (p * rate) 10000 in
    let g : count * y * 10000 ≤ amount * rate = omega (arith, mul-le-mul_left count f, mul-le-mul_right rate e) in
    let h : count * y ≤ amount * rate / 10000 = (le-div_iff_mul-le {k = 10000} {x = count * y} {y = amount * rate} (omega arith)).1 g in
    omega arith

-- a single installment is the total
only_part : (amount rate : ℕ) → part_of amount rate 1 ≡ total_of amount rate
unfolding part_of total_of
only_part amount rate = rw (div-one amount)

only_first : (amount rate : ℕ) → get_or (flat 1 (part_of amount rate 1) (total_of amount rate)) 0 0 ≡ part_of amount rate 1
only_first amount rate = flat_last 1 (part_of amount rate 1) (total_of amount rate) ∙ omega (arith, only_part amount rate)

module _ (amount rate count : ℕ) (some : 1 ≤ count) where
  pub parts_room : (count - 1) * part_of amount rate count + part_of amount rate count ≤ total_of amount rate
  parts_room =
      let e : count ≡ suc (count - 1) = omega arith in
      let f : count * part_of amount rate count ≡ suc (count - 1) * part_of amount rate count = ap (λ (n : ℕ). n * part_of amount rate count) e in
      omega (arith, parts_fit amount rate count)

  -- so the last is never less than the others
  pub last_most : part_of amount rate count ≤ get_or (flat count (part_of amount rate count) (total_of amount rate)) (count - 1) 0
  last_most = rw (flat_last count (part_of amount rate count) (total_of amount rate)) (omega (arith, parts_room))

  -- none is 0 where an installment is not
  pub parts_positive : 0 < part_of amount rate count → Positive (flat count (part_of amount rate count) (total_of amount rate))
  parts_positive p = flat_positive count (part_of amount rate count) (total_of amount rate) some (omega (arith, parts_room)) p (omega (arith, parts_room))

  -- the first is an installment, the only one too
  pub parts_first : get_or (flat count (part_of amount rate count) (total_of amount rate)) 0 0 ≡ part_of amount rate count
  parts_first = by (dec_le 2 count)
    where
      by : Dec (2 ≤ count) → get_or (flat count (part_of amount rate count) (total_of amount rate)) 0 0 ≡ part_of amount rate count
      by (yes m) = flat_early count (part_of amount rate count) (total_of amount rate) 0 (omega arith)
      by (no m) = let e : count ≡ 1 = omega arith in rw e (only_first amount rate)

-- a total is at most twice the amount
pub total_le : (amount rate : ℕ) → amount ≤ 1000000000000 → rate ≤ 10000 → total_of amount rate ≤ 2000000000000
unfolding total_of
total_le amount rate h k = omega (arith, mul-le-mul_left amount k)
