-- A list read entry by entry into an array of n, with d after its end
use Rattle.std.specs.Prelude.{◌≡◌, length, get_or}
use Rattle.std.proofs.Math.Path.{refl, ap}
use mathlib.Core.List.{List, [], ◌∷◌}
use Prim.Native.Nat.{ℕ, zero, suc, ◌≤◌, ◌<◌}
use Rattle.std.proofs.Common.{arith}
use Rattle.table.specs.Shift.{insert_at}

-- g of each entry, and then d: n in all
module _ {E B : Type 0} (d : B) (g : E → B) where
  unfoldable pub padded : ℕ → List E → List B
  padded zero t = []
  padded (suc n) [] = d ∷ padded n []
  padded (suc n) (e ∷ t) = g e ∷ padded n t

  pub length-padded : (n : ℕ) (t : List E) → length (padded n t) ≡ n
  unfolding padded
  length-padded zero t = refl
  length-padded (suc n) [] = ap suc (length-padded n [])
  length-padded (suc n) (e ∷ t) = ap suc (length-padded n t)

  -- after the end
  pub pad_rest : (n : ℕ) (t : List E) (i : ℕ) → length t ≤ i → get_or (padded n t) i d ≡ d
  unfolding padded
  pad_rest zero t i h = refl
  pad_rest (suc n) [] zero h = refl
  pad_rest (suc n) [] (suc i) h = pad_rest n [] i (omega arith)
  pad_rest (suc n) (e ∷ t) zero h = absurd (omega arith)
  pad_rest (suc n) (e ∷ t) (suc i) h = pad_rest n t i (omega arith)

  -- one entry more at the front
  flat : (n : ℕ) → insert_at 0 d (padded n []) ≡ padded n []
  unfolding padded
  flat zero = refl
  flat (suc n) = ap (λ z. d ∷ z) (flat n)

  pub push : (n : ℕ) (e : E) (t : List E) → length t < n → insert_at 0 (g e) (padded n t) ≡ padded n (e ∷ t)
  unfolding padded
  push zero e t h = absurd (omega arith)
  push (suc n) e [] h = ap (λ z. g e ∷ z) (flat n)
  push (suc n) e (x ∷ t) h = ap (λ z. g e ∷ z) (push n x t (omega arith))
