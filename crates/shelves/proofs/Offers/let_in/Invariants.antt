use Rattle.shelves.specs.Moving.{Moves}
use Rattle.shelves.proofs.Offers.let_in.Given as goal

abbrev pub invariant-loop-i : goal.invariant-loop-i
invariant-loop-i l = Moves l.fn.self l.k l.self l.i

abbrev pub decreases-loop-i : goal.decreases-loop-i
decreases-loop-i l = l.i
