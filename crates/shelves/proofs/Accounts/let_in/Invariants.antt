use Rattle.table.proofs.Raising.{Raised}
use Rattle.shelves.proofs.Accounts.let_in.Given as goal

abbrev pub invariant-loop-i : goal.invariant-loop-i
invariant-loop-i l = Raised 64 l.count l.fn.self.ids l.fn.self.rows l.k l.self.ids l.self.rows l.i

abbrev pub decreases-loop-i : goal.decreases-loop-i
decreases-loop-i l = l.i
