-- The fields so far are read, and v holds their numbers.
use Rattle.std.proofs.Common.{◌+◌, ◌*◌}
use Rattle.journal.specs.FieldLaws.{Going}
use Rattle.journal.proofs.reading.gather.Given as goal

abbrev pub invariant-loop-i : goal.invariant-loop-i
invariant-loop-i l = Going l.tags l.s l.p l.i (l.p + 11 * l.i) l.v
