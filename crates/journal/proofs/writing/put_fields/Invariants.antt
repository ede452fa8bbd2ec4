-- The first i fields stand there.
use Rattle.std.proofs.Common.{◌≡◌, take}
use Rattle.refusal.specs.Placed.{placed}
use Rattle.journal.specs.Format.{fields_out}
use Rattle.journal.proofs.writing.put_fields.Given as goal

abbrev pub invariant-loop-i : goal.invariant-loop-i
invariant-loop-i l = l.out ≡ placed l.p (fields_out (take l.i l.tags) l.values) l.fn.out
