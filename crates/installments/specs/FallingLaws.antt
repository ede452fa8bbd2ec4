-- What the falling installments come to. Assumes nothing.
use Rattle.std.specs.Prelude.{ℕ, zero, suc, ◌+◌, ◌-◌, ◌*◌, ◌/◌, ◌≤◌, ◌<◌, ◌≡◌, refl, ◌↔◌, eqb, length, get_or}
use Rattle.std.proofs.Common.{not-suc-le-zero, le_of_suc-le-suc, le_trans, le-div_iff_mul-le, div-mul-le_self, div-one, mul-le-mul_right, arith, sym, ap, ◌∙◌, eq-eqb, ne_eqb}
use Rattle.std.proofs.Math.Nat.{lt-div-mul-add, div-le_self, div-le_of_le-mul, div-zero, mul-le-mul, mul-le-mul_left}
use Rattle.std.proofs.Math.Decide.{dec_le}
use Rattle.refusal.specs.ChoiceLaws.{pick_on, pick_off, either}
use Rattle.installments.specs.Sums.{sum_to, sum_of}
use Rattle.installments.specs.SumLaws.{Positive, sum-zero, sum_suc, sum_all, sum_bound}
use Rattle.installments.specs.Falling.{listed, outstanding, principal, interest, falling_member, falling}

pub listed_length : (f : ℕ → ℕ) (n : ℕ) → length (listed f n) ≡ n
unfolding listed
listed_length f zero = refl
listed_length f (suc n) = ap suc (listed_length (λ (k : ℕ). f (suc k)) n)

pub listed_member : (f : ℕ → ℕ) (n k : ℕ) → k < n → get_or (listed f n) k 0 ≡ f k
unfolding listed
listed_member f zero k h = absurd (not-suc-le-zero h)
listed_member f (suc n) zero h = refl
listed_member f (suc n) (suc k) h = listed_member (λ (k : ℕ). f (suc k)) n k (le_of_suc-le-suc h)

-- every repayment of principal but the last is the same
pub principal_else : (amount count k : ℕ) → (suc k ≡ count → ⊥) → principal amount count k ≡ amount / count
unfolding principal
principal_else amount count k h = pick_off _ _ (ne_eqb (k + 1) count (λ e. h (omega arith)))

pub principal_early : (amount count k : ℕ) → suc k < count → principal amount count k ≡ amount / count
principal_early amount count k h = principal_else amount count k (λ e. omega arith)

pub principal_last : (amount count k : ℕ) → suc k ≡ count → principal amount count k ≡ outstanding amount count k
unfolding principal
principal_last amount count k h = pick_on _ _ (eq-eqb (k + 1) count (omega arith))

-- floor(amount/count) as many times as there are installments is no more than the amount
pub share_fits : (amount count k : ℕ) → k ≤ count → k * (amount / count) ≤ amount
share_fits amount count k h = omega (arith, mul-le-mul_right (amount / count) h, div-mul-le_self amount count)

-- principal repaid over all of them is the amount
principal_sum : (amount count k : ℕ) → k < count → sum_to k (listed (principal amount count) count) ≡ k * (amount / count)
principal_sum amount count zero h = sum-zero _ ∙ (omega arith)
principal_sum amount count (suc k) h =
    let l = listed (principal amount count) count in
    omega (arith, principal_sum amount count k (omega arith), sum_suc k l (omega (arith, listed_length (principal amount count) count)), listed_member (principal amount count) count k (omega arith), principal_early amount count k h)

pub principal_all : (amount count : ℕ) → 1 ≤ count → sum_of (listed (principal amount count) count) ≡ amount
unfolding outstanding
principal_all amount count h =
    let l = listed (principal amount count) count in
    let last : suc (count - 1) ≡ count = omega arith in
    let size : length l ≡ suc (count - 1) = listed_length (principal amount count) count ∙ sym last in
    let e : sum_to (suc (count - 1)) l ≡ amount =
    omega (arith, principal_sum amount count (count - 1) (omega arith), sum_suc (count - 1) l (omega arith), listed_member (principal amount count) count (count - 1) (omega arith), principal_last amount count (count - 1) last, share_fits amount count (count - 1) (omega arith)) in
    sym (sum_all l) ∙ (ap (λ (n : ℕ). sum_to n l) size ∙ e)

-- what is outstanding falls, and so does the interest on it
pub outstanding_falls : (amount count j k : ℕ) → j ≤ k → outstanding amount count k ≤ outstanding amount count j
unfolding outstanding
outstanding_falls amount count j k h = omega (arith, mul-le-mul_right (amount / count) h)

pub outstanding_le : (amount count k : ℕ) → outstanding amount count k ≤ amount
unfolding outstanding
outstanding_le amount count k = omega arith

-- a quotient grows with what is divided
div_le : (a b c : ℕ) → a ≤ b → a / c ≤ b / c
div_le a b zero h = omega (arith, div-zero a, div-zero b)
div_le a b (suc c) h = (le-div_iff_mul-le {k = suc c} {x = a / suc c} {y = b} (omega arith)).1 (le_trans (div-mul-le_self a (suc c)) h)

pub interest_falls : (amount rate count j k : ℕ) → j ≤ k → interest amount rate count k ≤ interest amount rate count j
unfolding interest
interest_falls amount rate count j k h = div_le _ _ (10000 * count) (mul-le-mul_right rate (outstanding_falls amount count j k h))

pub falling_length : (amount rate count : ℕ) → length (falling amount rate count) ≡ count
unfolding falling
falling_length amount rate count = listed_length (falling_member amount rate count) count

pub falling_member_lem : (amount rate count k : ℕ) → k < count → get_or (falling amount rate count) k 0 ≡ falling_member amount rate count k
unfolding falling
falling_member_lem amount rate count k h = listed_member (falling_member amount rate count) count k h

-- each adds itself to the sum
pub falling_next : (amount rate count k : ℕ) → k < count → sum_to k (falling amount rate count) + falling_member amount rate count k ≡ sum_to (suc k) (falling amount rate count)
falling_next amount rate count k h = omega (arith, sum_suc k (falling amount rate count) (omega (arith, falling_length amount rate count)), falling_member_lem amount rate count k h)

-- no installment but the last is more than the one before it
pub falling_falls : (amount rate count k : ℕ) → suc (suc k) < count → get_or (falling amount rate count) (suc k) 0 ≤ get_or (falling amount rate count) k 0
unfolding falling_member
falling_falls amount rate count k h =
    omega (arith, falling_member_lem amount rate count k (omega arith), falling_member_lem amount rate count (suc k) (omega arith), principal_early amount count k (omega arith), principal_early amount count (suc k) h, interest_falls amount rate count k (suc k) (omega arith))

-- the principal of each is at least floor(amount/count), so none is 0 where that is not
pub principal_most : (amount count k : ℕ) → k < count → amount / count ≤ principal amount count k
unfolding outstanding
principal_most amount count k h = by (dec_le (suc (suc k)) count)
  where
    by : Dec (suc k < count) → amount / count ≤ principal amount count k
    by (yes m) = omega (arith, principal_early amount count k m)
    by (no m) = omega (arith, principal_last amount count k (omega arith), share_fits amount count (suc k) h)

pub falling_positive : (amount rate count : ℕ) → 1 ≤ amount / count → Positive (falling amount rate count)
unfolding falling_member
falling_positive amount rate count p = record { member = λ k h. at k (omega (arith, falling_length amount rate count)) }
  where
    at : (k : ℕ) → k < count → 0 < get_or (falling amount rate count) k 0
    at k h = omega (arith, falling_member_lem amount rate count k h, principal_most amount count k h)

-- before the first nothing is repaid
outstanding_first : (amount count : ℕ) → outstanding amount count 0 ≡ amount
unfolding outstanding
outstanding_first amount count = omega arith

principal_first : (amount count : ℕ) → 1 ≤ count → principal amount count 0 ≡ amount / count
principal_first amount count h = by (dec_le 2 count)
  where
    by : Dec (1 < count) → principal amount count 0 ≡ amount / count
    by (yes m) = principal_early amount count 0 m
    by (no m) =
        let e : count ≡ 1 = omega arith in
        principal_last amount count 0 (sym e) ∙ (outstanding_first amount count ∙ rw (e, div-one amount))

-- the first, which is the installment that a schedule stores
pub falling_first : (amount rate count : ℕ) → 1 ≤ count → get_or (falling amount rate count) 0 0 ≡ amount / count + amount * rate / (10000 * count)
unfolding falling_member interest
falling_first amount rate count h = falling_member_lem amount rate count 0 h ∙ rw (principal_first amount count h, outstanding_first amount count)

-- it is 0 exactly where floor(amount/count) is: the interest on less than a unit each is none
pub first_share : (amount rate count : ℕ) → 1 ≤ count → rate ≤ 10000 → (get_or (falling amount rate count) 0 0 ≡ 0) ↔ (amount / count ≡ 0)
first_share amount rate count some small = ((λ z. omega (arith, z, e)), none)
  where
    e : get_or (falling amount rate count) 0 0 ≡ amount / count + amount * rate / (10000 * count)
    e = falling_first amount rate count some

    none : amount / count ≡ 0 → get_or (falling amount rate count) 0 0 ≡ 0
    none z =
        let less : amount < count = omega (arith, lt-div-mul-add {a = amount} some, ap (λ (n : ℕ). n * count) z) in
        omega (arith, z, e, none_of (dec_le 1 (amount * rate / (10000 * count))) less)
      where
        none_of : Dec (1 ≤ amount * rate / (10000 * count)) → amount < count → amount * rate / (10000 * count) ≡ 0
        none_of (no h) less = omega arith
        none_of (yes h) less =
            let k = (le-div_iff_mul-le {k = 10000 * count} {x = 1} {y = amount * rate} (omega arith)).0 h in
            absurd (omega (arith, mul-le-mul_left amount small))

-- Nothing leaves 64 bits: an interest is no more than what it is on, and no member more than twice the amount
module _ (amount rate count k : ℕ) (some : 1 ≤ count) (small : rate ≤ 10000) where
  pub interest_le : interest amount rate count k ≤ amount
  unfolding interest
  interest_le =
      div-le_of_le-mul (10000 * count) (omega (arith, mul-le-mul (outstanding_le amount count k) small, mul-le-mul_left (10000 * amount) some))

  pub principal_le : principal amount count k ≤ amount
  unfolding principal
  principal_le = either (λ (n : ℕ). n ≤ amount) (eqb (k + 1) count) _ _ (λ t. outstanding_le amount count k) (λ t. div-le_self amount count)

module _ (amount rate count : ℕ) (some : 1 ≤ count) (most : amount ≤ 1000000000000) (small : rate ≤ 10000) where
  pub product_le : (k : ℕ) → outstanding amount count k * rate ≤ 10000000000000000
  product_le k = mul-le-mul (le_trans (outstanding_le amount count k) most) small

  pub member_le : (k : ℕ) → falling_member amount rate count k ≤ 2000000000000
  unfolding falling_member
  member_le k = omega (arith, interest_le amount rate count k some small, principal_le amount rate count k some small)

  pub falling_sum_le : (k : ℕ) → k ≤ count → sum_to k (falling amount rate count) ≤ k * 2000000000000
  falling_sum_le k h = sum_bound 2000000000000 (falling amount rate count) at k (omega (arith, falling_length amount rate count))
    where
      at : (j : ℕ) → j < length (falling amount rate count) → get_or (falling amount rate count) j 0 ≤ 2000000000000
      at j m = omega (arith, falling_member_lem amount rate count j (omega (arith, falling_length amount rate count)), member_le j)
