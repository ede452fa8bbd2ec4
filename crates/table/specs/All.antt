-- A test at each index below n, as a loop makes it
use Rattle.std.specs.Prelude.{ℕ, zero, suc, ◌+◌, ◌≤◌, ◌<◌, ◌≡◌, refl, ltb, Bool, true, false, ◌&&◌}
use Rattle.std.proofs.Common.{add-one, arith, ap, ◌∙◌, ltb-true, ltb-false}
use Rattle.table.specs.Test.{all_below}

-- a turn of a loop that keeps `ok`
pub all_on : (p : ℕ → Bool) (i : ℕ) (ok t : Bool) → ok ≡ all_below i p → t ≡ p i → ok && t ≡ all_below (i + 1) p
all_on p i ok t a b = rw add-one (ap (λ (x : Bool). x && t) a ∙ ap (λ (x : Bool). all_below i p && x) b)

-- the invariant of such a loop over the indices below n
pub record Checked (n : ℕ) (p : ℕ → Bool) (i : ℕ) (ok : Bool) : Type 0 where
  pub within : i ≤ n
  pub all : ok ≡ all_below i p

pub check_start : (n : ℕ) (p : ℕ → Bool) → Checked n p 0 true
check_start n p = record { within = omega arith; all = refl }

pub check_turn : {n : ℕ} {p : ℕ → Bool} {i : ℕ} {ok t : Bool} → Checked n p i ok → i < n → t ≡ p i → Checked n p (i + 1) (ok && t)
check_turn {n} {p} {i} {ok} {t} c h e = record { within = omega arith; all = all_on p i ok t c.all e }

pub check_done : {n : ℕ} {p : ℕ → Bool} {i : ℕ} {ok : Bool} → Checked n p i ok → n ≤ i → ok ≡ all_below n p
check_done {n} {p} {i} {ok} c h = let e : i ≡ n = omega (arith, c.within) in rw e at c.all

-- what a caller learns, and what makes it
pub both_true : (a b : Bool) → a && b ≡ true → (a ≡ true) × (b ≡ true)
both_true true b e = (refl, e)
both_true false b e = let z : false ≡ true = e in (z, cc)

pub all-at : (p : ℕ → Bool) (n : ℕ) → all_below n p ≡ true → (i : ℕ) → i < n → p i ≡ true
all-at p zero e i h = absurd (omega arith)
all-at p (suc n) e i h = go (ltb i n) refl (all-at p n (both_true (all_below n p) (p n) e).0 i)
  where
    go : (b : Bool) → ltb i n ≡ b → (i < n → p i ≡ true) → p i ≡ true
    go true q r = r (ltb-true i n q)
    go false q r = let s : i ≡ n = omega (arith, ltb-false i n q) in rw s (both_true (all_below n p) (p n) e).1

pub all_make : (p : ℕ → Bool) (n : ℕ) → ((i : ℕ) → i < n → p i ≡ true) → all_below n p ≡ true
all_make p zero f = refl
all_make p (suc n) f = rw (all_make p n (λ i l. f i (omega arith)), f n (omega arith))

pub both_same : {a a' b b' : Bool} → a ≡ a' → b ≡ b' → a && b ≡ a' && b'
both_same {a} {a'} {b} {b'} p q = ap (λ (x : Bool). x && b) p ∙ ap (λ (x : Bool). a' && x) q

-- what holds below i, and at i, holds below i + 1
pub below_on : {P : ℕ → Type 0} {i : ℕ} → ((k : ℕ) → k < i → P k) → P i → (k : ℕ) → k < i + 1 → P k
below_on {P} {i} f p k h = go (ltb k i) refl
  where
    go : (b : Bool) → ltb k i ≡ b → P k
    go true q = f k (ltb-true k i q)
    go false q = let s : k ≡ i = omega (arith, ltb-false k i q) in rw s p
