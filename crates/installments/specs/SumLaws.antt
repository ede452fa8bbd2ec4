-- What the due rule promises, proved once over any list of installments. Assumes nothing.
use Rattle.std.specs.Prelude.{ℕ, zero, suc, ◌+◌, ◌-◌, ◌*◌, ◌≤◌, ◌<◌, ◌≡◌, refl, ◌↔◌, Bool, true, false, List, [], ◌∷◌, leb, length, get_or}
use Rattle.std.proofs.Common.{le_of_suc-le-suc, not-suc-le-zero, arith, ap, ◌∙◌, leb-true, leb-false, le-leb}
use Rattle.std.proofs.Math.Decide.{dec_le}
use Rattle.std.proofs.lemmas.Bool.{lt-leb}
use Rattle.refusal.specs.Choice.{pick}
use Rattle.refusal.specs.ChoiceLaws.{pick_on, pick_off, either}
use Rattle.installments.specs.Sums.{sum_to, sum_of, paid_of, number_due, owed_on, due_of}

-- nothing is summed up to 0, and each installment adds itself
pub sum-zero : (l : List ℕ) → sum_to 0 l ≡ 0
unfolding sum_to
sum-zero l = refl

pub sum_suc : (k : ℕ) (l : List ℕ) → k < length l → sum_to (suc k) l ≡ sum_to k l + get_or l k 0
unfolding sum_to
sum_suc k [] h = absurd (not-suc-le-zero h)
sum_suc zero (x ∷ l) h = omega arith
sum_suc (suc k) (x ∷ l) h = let e = sum_suc k l (le_of_suc-le-suc h) in omega arith

-- the sums never fall
pub sum-le : (j k : ℕ) (l : List ℕ) → j ≤ k → sum_to j l ≤ sum_to k l
unfolding sum_to
sum-le zero k l h = omega arith
sum-le (suc j) zero l h = absurd (not-suc-le-zero h)
sum-le (suc j) (suc k) [] h = omega arith
sum-le (suc j) (suc k) (x ∷ l) h = let e = sum-le j k l (le_of_suc-le-suc h) in omega arith

-- up to the last one it is all of them together
pub sum_all : (l : List ℕ) → sum_to (length l) l ≡ sum_of l
unfolding sum_to sum_of
sum_all [] = refl
sum_all (x ∷ l) = ap (λ (n : ℕ). x + n) (sum_all l)

-- installments of at most b come to at most b each
pub sum_bound : (b : ℕ) (l : List ℕ) → ((k : ℕ) → k < length l → get_or l k 0 ≤ b) → (k : ℕ) → k ≤ length l → sum_to k l ≤ k * b
sum_bound b l f zero h = omega (arith, sum-zero l)
sum_bound b l f (suc k) h = let e = sum_bound b l f k (omega arith) in omega (arith, sum_suc k l h, f k h)

-- how many are paid: no more than there are, their sum is repaid, and the sum up to the next is not
pub paid_le : (l : List ℕ) (r : ℕ) → paid_of l r ≤ length l
unfolding paid_of
paid_le [] r = omega arith
paid_le (x ∷ l) r = let e = paid_le l (r - x) in either (λ (n : ℕ). n ≤ suc (length l)) (leb x r) _ _ (λ t. omega arith) (λ t. omega arith)

pub paid_sum : (l : List ℕ) (r : ℕ) → sum_to (paid_of l r) l ≤ r
unfolding sum_to paid_of
paid_sum [] r = omega arith
paid_sum (x ∷ l) r = let e = paid_sum l (r - x) in either (λ (n : ℕ). sum_to n (x ∷ l) ≤ r) (leb x r) _ _ (λ t. omega (arith, leb-true x r t)) (λ t. omega arith)

pub unpaid_sum : (l : List ℕ) (r : ℕ) → paid_of l r < length l → r < sum_to (suc (paid_of l r)) l
unfolding sum_to paid_of
unpaid_sum [] r h = absurd (not-suc-le-zero h)
unpaid_sum (x ∷ l) r h = either (λ (n : ℕ). n < suc (length l) → r < sum_to (suc n) (x ∷ l)) (leb x r) _ _ (reached (unpaid_sum l (r - x))) (λ t m. omega (arith, leb-false x r t)) h
  where
    reached : (paid_of l (r - x) < length l → r - x < sum_to (suc (paid_of l (r - x))) l) → leb x r ≡ true → suc (paid_of l (r - x)) < suc (length l) → r < x + sum_to (suc (paid_of l (r - x))) l
    reached f t m = let e = f (le_of_suc-le-suc m) in omega (arith, leb-true x r t)

-- and no other number is so
pub paid_is : (l : List ℕ) (r n : ℕ) → n ≤ length l → sum_to n l ≤ r → (n < length l → r < sum_to (suc n) l) → paid_of l r ≡ n
paid_is l r n h low high = by (dec_le (suc (paid_of l r)) n) (dec_le (suc n) (paid_of l r))
  where
    by : Dec (paid_of l r < n) → Dec (n < paid_of l r) → paid_of l r ≡ n
    by (yes p) q = absurd (omega (arith, unpaid_sum l r (omega arith), sum-le (suc (paid_of l r)) n l p))
    by (no p) (yes q) = absurd (omega (arith, high (omega (arith, paid_le l r)), paid_sum l r, sum-le (suc n) (paid_of l r) l q))
    by (no p) (no q) = omega arith

-- where an installment is paid, and where the next one is not
pub paid_from : (l : List ℕ) (r k : ℕ) → k ≤ length l → sum_to k l ≤ r → k ≤ paid_of l r
paid_from l r k h low = by (dec_le k (paid_of l r))
  where
    by : Dec (k ≤ paid_of l r) → k ≤ paid_of l r
    by (yes p) = p
    by (no p) = absurd (omega (arith, unpaid_sum l r (omega arith), sum-le (suc (paid_of l r)) k l (omega arith)))

-- the number is 0 where the sum up to those elapsed is repaid
pub number-none : (l : List ℕ) (elapsed r : ℕ) → elapsed ≤ length l → sum_to elapsed l ≤ r → number_due l elapsed r ≡ 0
unfolding number_due
number-none l elapsed r h low = pick_on _ _ (le-leb elapsed (paid_of l r) (paid_from l r elapsed h low))

-- it is n + 1 where the first n are paid and the next is not
pub number_next : (l : List ℕ) (elapsed r n : ℕ) → elapsed ≤ length l → n < elapsed → sum_to n l ≤ r → r < sum_to (suc n) l → number_due l elapsed r ≡ suc n
unfolding number_due
number_next l elapsed r n h k low high =
    let e = paid_is l r n (omega arith) low (λ m. high) in
    pick_off _ _ (lt-leb elapsed (paid_of l r) (omega arith)) ∙ (omega arith)

-- the same of the number and what is owed on it
pub due_none : (l : List ℕ) (elapsed r : ℕ) → elapsed ≤ length l → sum_to elapsed l ≤ r → due_of l elapsed r ≡ (0, 0)
unfolding due_of owed_on
due_none l elapsed r h low = let e = sum-zero l in rw (number-none l elapsed r h low) (ap (λ (n : ℕ). (0, n)) (omega arith))

pub due_next : (l : List ℕ) (elapsed r n : ℕ) → elapsed ≤ length l → n < elapsed → sum_to n l ≤ r → r < sum_to (suc n) l → due_of l elapsed r ≡ (suc n, sum_to (suc n) l - r)
unfolding due_of owed_on
due_next l elapsed r n h k low high = rw (number_next l elapsed r n h k low high)

-- the pair by how many are paid
pub due_paid : (l : List ℕ) (elapsed r n : ℕ) → paid_of l r ≡ n → due_of l elapsed r ≡ pick (leb elapsed n) (0, 0) (n + 1, sum_to (n + 1) l - r)
unfolding due_of owed_on number_due pick
due_paid l elapsed r n e = rw e (by (leb elapsed n))
  where
    by : (t : Bool) → ◌≡◌ {A = ℕ × ℕ} (pick t 0 (n + 1), sum_to (pick t 0 (n + 1)) l - r) (pick t (0, 0) (n + 1, sum_to (n + 1) l - r))
    by true = let z = sum-zero l in ap (λ (m : ℕ). (0, m)) (omega arith)
    by false = refl

-- which of the two it is
pub data Stands (l : List ℕ) (elapsed r : ℕ) : Type 0 where
  settled : sum_to elapsed l ≤ r → number_due l elapsed r ≡ 0 → Stands l elapsed r
  open_at : (n : ℕ) → n < elapsed → sum_to n l ≤ r → r < sum_to (suc n) l → number_due l elapsed r ≡ suc n → Stands l elapsed r

pub stands : (l : List ℕ) (elapsed r : ℕ) → elapsed ≤ length l → Stands l elapsed r
stands l elapsed r h = by (dec_le elapsed (paid_of l r))
  where
    by : Dec (elapsed ≤ paid_of l r) → Stands l elapsed r
    by (yes p) = let e : sum_to elapsed l ≤ r = omega (arith, sum-le elapsed (paid_of l r) l p, paid_sum l r) in settled e (number-none l elapsed r h e)
    by (no p) =
        let low = paid_sum l r in
        let high = unpaid_sum l r (omega arith) in
        open_at (paid_of l r) (omega arith) low high (number_next l elapsed r (paid_of l r) h (omega arith) low high)

-- installments of which none is 0
pub record Positive (l : List ℕ) : Type 0 where
  pub member : (k : ℕ) → k < length l → 0 < get_or l k 0

-- their sums rise with each
pub sum_lt : (j k : ℕ) (l : List ℕ) → Positive l → j < k → k ≤ length l → sum_to j l < sum_to k l
sum_lt j k l p h m = omega (arith, sum_suc j l (omega arith), p.member j (omega arith), sum-le (suc j) k l h)

-- what is owed
pub owed_is : (l : List ℕ) (elapsed r : ℕ) → owed_on l elapsed r ≡ sum_to (number_due l elapsed r) l - r
unfolding owed_on
owed_is l elapsed r = refl

-- The number is that of the first unpaid installment of those elapsed, and what is owed on it is what its sum lacks.
pub record Promises (l : List ℕ) (elapsed repaid : ℕ) : Type 0 where
  -- none is due exactly where the sum up to those elapsed is repaid, and then nothing is owed
  pub none_due : (number_due l elapsed repaid ≡ 0) ↔ (sum_to elapsed l ≤ repaid)
  pub none_owed : number_due l elapsed repaid ≡ 0 → owed_on l elapsed repaid ≡ 0
  -- the one that is due is not later than those elapsed, is not paid, and every one before it is
  pub not_later : number_due l elapsed repaid ≤ elapsed
  pub not_paid : 0 < number_due l elapsed repaid → repaid < sum_to (number_due l elapsed repaid) l
  pub before_paid : (j : ℕ) → j < number_due l elapsed repaid → sum_to j l ≤ repaid
  -- something is owed on it, and no more than it is
  pub some_owed : 0 < number_due l elapsed repaid → 0 < owed_on l elapsed repaid
  pub owed_at_most : owed_on l elapsed repaid ≤ get_or l (number_due l elapsed repaid - 1) 0
  -- paying exactly what is owed makes the next one due, and none after the last
  pub paying : 0 < number_due l elapsed repaid → number_due l elapsed repaid < elapsed → number_due l elapsed (repaid + owed_on l elapsed repaid) ≡ suc (number_due l elapsed repaid)
  pub paying_last : 0 < number_due l elapsed repaid → number_due l elapsed repaid ≡ elapsed → number_due l elapsed (repaid + owed_on l elapsed repaid) ≡ 0

pub due_promises : (l : List ℕ) (elapsed repaid : ℕ) → Positive l → elapsed ≤ length l → Promises l elapsed repaid
due_promises l elapsed r p h = by (stands l elapsed r h)
  where
    by : Stands l elapsed r → Promises l elapsed r
    by (settled low e) =
        let w : owed_on l elapsed r ≡ 0 = simp (e, sum-zero l) at (owed_is l elapsed r) ∙ (omega arith) in
        record {
          none_due = ((λ x. low), (λ x. e));
          none_owed = λ x. w;
          not_later = omega arith;
          not_paid = λ x. absurd (omega arith);
          before_paid = λ j x. absurd (omega arith);
          some_owed = λ x. absurd (omega arith);
          owed_at_most = omega arith;
          paying = λ x. absurd (omega arith);
          paying_last = λ x. absurd (omega arith);
        }
    by (open_at n k low high e) =
        let w : owed_on l elapsed r ≡ sum_to (suc n) l - r = owed_is l elapsed r ∙ ap (λ (m : ℕ). sum_to m l - r) e in
        let s = sum_suc n l (omega arith) in
        let full : r + owed_on l elapsed r ≡ sum_to (suc n) l = omega arith in
        let at : number_due l elapsed r - 1 ≡ n = omega arith in
        record {
          none_due = ((λ x. absurd (omega arith)), (λ x. absurd (omega (arith, sum-le (suc n) elapsed l k))));
          none_owed = λ x. absurd (omega arith);
          not_later = omega arith;
          not_paid = λ x. rw e high;
          before_paid = λ j x. omega (arith, sum-le j n l (omega arith));
          some_owed = λ x. omega arith;
          owed_at_most = rw at (omega arith);
          paying = λ x y. rw (full, e) (number_next l elapsed (sum_to (suc n) l) (suc n) h (omega arith) (omega arith) (sum_lt (suc n) (suc (suc n)) l p (omega arith) (omega arith)));
          paying_last = λ x y. rw full (number-none l elapsed (sum_to (suc n) l) h (sum-le elapsed (suc n) l (omega arith)));
        }
