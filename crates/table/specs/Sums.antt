-- Sums over a list of ids
use Rattle.std.specs.Prelude.{◌≡◌, cond, List, [], ◌∷◌, ℕ, ◌+◌, ◌*◌, eqb}
use Rattle.std.proofs.Common.{arith, eqb-true}
use Rattle.std.proofs.lemmas.Bool.{eqb-false}
use Rattle.table.specs.Tables.{hit}
use Rattle.table.specs.Deciding.{Is, is_true, is_false, decide}

unfoldable pub over : (ℕ → ℕ) → List ℕ → ℕ
over f [] = 0
over f (j ∷ l) = f j + over f l

unfoldable pub count : ℕ → List ℕ → ℕ
count i [] = 0
count i (j ∷ l) = hit j i 1 + count i l

pub hit_swap : (i j x : ℕ) → hit i j x ≡ hit j i 1 * x
unfolding hit
hit_swap i j x = go (decide (eqb i j)) (decide (eqb j i))
  where
    go : Is (eqb i j) → Is (eqb j i) → cond (eqb i j) x 0 ≡ cond (eqb j i) 1 0 * x
    go (is_true a) (is_true b) = simp (a, b) (omega arith)
    go (is_false a) (is_false b) = simp (a, b) (omega arith)
    go (is_true a) (is_false b) = absurd (omega (arith, eqb-true i j a, eqb-false j i b))
    go (is_false a) (is_true b) = absurd (omega (arith, eqb-false i j a, eqb-true j i b))

pub over_change : (f f' : ℕ → ℕ) (i x y : ℕ) → ((j : ℕ) → f' j + hit i j y ≡ f j + hit i j x) → (l : List ℕ)
    → over f' l + count i l * y ≡ over f l + count i l * x
unfolding over count
over_change f f' i x y k [] = omega arith
over_change f f' i x y k (j ∷ l) = omega (arith, k j, over_change f f' i x y k l, hit_swap i j x, hit_swap i j y)

-- the same where i is not in the list, and where it is there once
pub over_none : (f f' : ℕ → ℕ) (i x y : ℕ) → ((j : ℕ) → f' j + hit i j y ≡ f j + hit i j x) → (l : List ℕ) → count i l ≡ 0 → over f' l ≡ over f l
over_none f f' i x y k l e = let h : over f' l + 0 * y ≡ over f l + 0 * x = rw e at (over_change f f' i x y k l) in omega arith

pub over_once : (f f' : ℕ → ℕ) (i x y : ℕ) → ((j : ℕ) → f' j + hit i j y ≡ f j + hit i j x) → (l : List ℕ) → count i l ≡ 1 → over f' l + y ≡ over f l + x
over_once f f' i x y k l e = let h : over f' l + 1 * y ≡ over f l + 1 * x = rw e at (over_change f f' i x y k l) in omega arith
