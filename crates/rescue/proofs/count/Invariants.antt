-- What is counted and what is still to come are all of it.
use Rattle.std.proofs.Common.{length, ◌-◌}
use Rattle.rescue.proofs.Sweeping.{Counting}
use Rattle.rescue.proofs.count.Given as goal

abbrev pub invariant-loop-size : goal.invariant-loop-size
invariant-loop-size l = Counting l.edition l.s l.first l.at l.n

abbrev pub decreases-loop-size : goal.decreases-loop-size
decreases-loop-size l = length l.s - l.at
