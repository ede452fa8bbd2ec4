use Rattle.std.proofs.Common.{◌≡◌, ◌-◌, length, take}
use Rattle.table.specs.Find.{halvings}
use Rattle.table.specs.Halves.{Searching}
use Rattle.table.proofs.find.Given as goal

abbrev pub invariant-loop-lo : goal.invariant-loop-lo
invariant-loop-lo l = (l.count ≡ length (take l.len l.ids)) × Searching (take l.len l.ids) l.id l.lo l.hi

-- so the loop turns at most as often as the count can be halved
abbrev pub decreases-loop-lo : goal.decreases-loop-lo
decreases-loop-lo l = halvings (l.hi - l.lo)
