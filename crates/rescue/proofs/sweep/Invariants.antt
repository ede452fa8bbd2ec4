-- What is written and what is still to come are all of it.
use Rattle.std.proofs.Common.{length, ◌-◌}
use Rattle.rescue.proofs.Sweeping.{Sweeping}
use Rattle.rescue.proofs.sweep.Given as goal

abbrev pub invariant-loop-size : goal.invariant-loop-size
invariant-loop-size l = Sweeping l.edition l.s l.first l.fn.out l.fn.report l.at l.p l.k l.out l.report

abbrev pub decreases-loop-size : goal.decreases-loop-size
decreases-loop-size l = length l.s - l.at
