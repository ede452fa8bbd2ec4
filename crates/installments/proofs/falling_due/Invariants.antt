use Rattle.std.proofs.Common.{◌≡◌, ◌≤◌}
use Rattle.installments.specs.Sums.{sum_to}
use Rattle.installments.specs.Falling.{falling}
use Rattle.installments.proofs.falling_due.Given as goal

-- the sum so far is that of the first i, and it is repaid
abbrev pub invariant-loop-i : goal.invariant-loop-i
invariant-loop-i l = record { so_far : l.sum ≡ sum_to l.i (falling l.amount l.rate l.count); paid : l.sum ≤ l.repaid }
