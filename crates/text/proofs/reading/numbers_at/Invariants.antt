-- The first i numbers are read.
use Rattle.std.proofs.Common.{◌≡◌, ◌+◌, ℕ, drop}
use Rattle.text.specs.NumbersLaws.{Gathering}
use Rattle.text.proofs.reading.numbers_at.Given as goal

abbrev pub invariant-loop-i : goal.invariant-loop-i
invariant-loop-i l = (k : ℕ) × ((l.next ≡ l.at + k) × Gathering l.tags (drop l.at l.s) l.i k l.values)
