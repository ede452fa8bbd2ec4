-- A part of a slice from its start has the length asked for. Assumes nothing.
use Rattle.std.specs.Prelude.{◌≡◌, List, ℕ, ◌≤◌, length, take}
use Rattle.std.proofs.Common.{sym, length-take-le}

pub taken : (k : ℕ) (l : List ℕ) → k ≤ length l → k ≡ length (take k l)
taken k l h = sym (length-take-le k l h)
