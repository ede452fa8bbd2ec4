-- The count of a word's set bits is the count of its seats. Assumes nothing.
use Rattle.std.specs.Prelude.{ℕ, zero, suc, ◌+◌, ◌/◌, ◌%◌, ◌^◌, ◌<◌, min, ◌≡◌, refl, Bool, true, false, ◌&&◌, eqb}
use Rattle.std.proofs.Common.{mod-lt, div-one, div-lt_iff_lt-mul, mul_comm, pow-suc, lt_of_le_of_lt, zero-lt-suc, arith, sym, ap, ap₂, subst, ◌∙◌}
use Rattle.std.proofs.Math.Nat.{div-div-eq-div-mul, zero-min, min-le_left}
use Rattle.std.proofs.Math.Arith.{lt-one, digits_div, digits_mod}
use Rattle.std.specs.Int.Bits.{bit_and, and_step, and_zero_r}
use Rattle.std.specs.Int.Count.{ones, ones_step}
use Rattle.seats.specs.Seats.{has_seat, bit, count_below, present_of, count_seats}

two_pos : 0 < 2
two_pos = zero-lt-suc 1

-- counts by equal tests, and the lowest seat counted first
same_count : (k : ℕ) (s t : ℕ → Bool) → ((i : ℕ) → s i ≡ t i) → count_below k s ≡ count_below k t
unfolding count_below
same_count zero s t h = refl
same_count (suc k) s t h = ap₂ (λ (x : ℕ) (b : Bool). x + bit b) (same_count k s t h) (h k)

lowest_first : (k : ℕ) (t : ℕ → Bool) → count_below (suc k) t ≡ bit (t 0) + count_below k (λ i. t (suc i))
unfolding count_below
lowest_first zero t = omega arith
lowest_first (suc k) t = omega (arith, lowest_first k t)

-- seat i + 1 of a number is seat i of its half
halved : (n i : ℕ) → has_seat n (suc i) ≡ has_seat (n / 2) i
halved n i = ap (λ (x : ℕ). eqb (x % 2) 1) (ap (λ (x : ℕ). n / x) (pow-suc 2 i ∙ mul_comm (2 ^ i) 2) ∙ sym (div-div-eq-div-mul n 2 (2 ^ i)))

both_bits : (a b : ℕ) → a < 2 → b < 2 → min a b ≡ bit (eqb a 1 && eqb b 1)
both_bits zero b h k = zero-min b
both_bits (suc zero) zero h k = refl
both_bits (suc zero) (suc zero) h k = refl
both_bits (suc zero) (suc (suc b)) h k = absurd (over b k)
  where
    over : (b : ℕ) → suc (suc b) < 2 → ⊥
    over b k = omega arith
both_bits (suc (suc a)) b h k = absurd (over a h)
  where
    over : (a : ℕ) → suc (suc a) < 2 → ⊥
    over a h = omega arith

module _ (p c : ℕ) where
  least : min (p % 2) (c % 2) < 2
  least = lt_of_le_of_lt (min-le_left (p % 2) (c % 2)) (mod-lt p two_pos)

  and_low : bit_and p c % 2 ≡ bit (has_seat p 0 && has_seat c 0)
  and_low =
      ap (λ (x : ℕ). x % 2) (and_step p c) ∙ digits_mod (bit_and (p / 2) (c / 2)) least ∙ both_bits (p % 2) (c % 2) (mod-lt p two_pos) (mod-lt c two_pos)
      ∙ ap₂ (λ (x y : ℕ). bit (eqb (x % 2) 1 && eqb (y % 2) 1)) (sym (div-one p)) (sym (div-one c))

  and_half : bit_and p c / 2 ≡ bit_and (p / 2) (c / 2)
  and_half = ap (λ (x : ℕ). x / 2) (and_step p c) ∙ digits_div (bit_and (p / 2) (c / 2)) least

-- the set bits of a mask of k bits, and the seats below k
pub masked : (k p c : ℕ) → c < 2 ^ k → ones (bit_and p c) ≡ count_below k (λ i. has_seat p i && has_seat c i)
unfolding ones count_below
masked zero p c h = ap ones (ap (bit_and p) (lt-one h) ∙ and_zero_r p)
masked (suc k) p c h =
    ones_step (bit_and p c)
    ∙ ap₂ (λ (x y : ℕ). x + y) (and_low p c)
    (ap ones (and_half p c) ∙ masked k (p / 2) (c / 2) ((div-lt_iff_lt-mul two_pos).1 (subst (λ (x : ℕ). c < x) (pow-suc 2 k) h)) ∙ same_count k _ _ (λ i. sym (ap₂ (λ (a b : Bool). a && b) (halved p i) (halved c i))))
    ∙ sym (lowest_first k (λ i. has_seat p i && has_seat c i))

and_self : (b : Bool) → b && b ≡ b
and_self true = refl
and_self false = refl

-- seats presented against themselves
pub all-present : (n : ℕ) → present_of n n ≡ count_seats n
unfolding present_of count_seats
all-present n = same_count 32 (λ i. has_seat n i && has_seat n i) (has_seat n) (λ i. and_self (has_seat n i))
