-- What is put into the bytes from a place on, and std's bytes of a number beside ours. Assumes nothing.
use Rattle.std.specs.Prelude.{◌≡◌, List, ◌++◌, ℕ, ◌+◌, ◌-◌, ◌≤◌, length, take, drop}
use Rattle.std.specs.Int.{w64, to_be_bytes}
use Rattle.std.proofs.Common.{sym, ◌∙◌}
use Rattle.std.proofs.Math.Nat.{div-div-eq-div-mul}
use Rattle.refusal.specs.Placed.{laid}
use Rattle.refusal.specs.PlacedLaws.{placed_mid, laid_in}
use Rattle.wire.specs.Field.{bytes_of}

pub be_eight : (v : ℕ) → to_be_bytes w64 v ≡ bytes_of 8 v
unfolding bytes_of
be_eight v = simp div-div-eq-div-mul

-- a copy to the head of the bytes from p on
pub laid_mid : (p : ℕ) (w l ys : List ℕ) → p + length w ≤ length l → ys ≡ w ++ drop (length w) (take (length l - p) (drop p l))
    → take p l ++ (ys ++ drop (length l - p) (drop p l)) ≡ laid p w l
laid_mid p w l ys h e = placed_mid p w l ys h e ∙ sym (laid_in p w l h)
