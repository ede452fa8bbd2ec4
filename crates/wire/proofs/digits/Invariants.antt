-- What the bytes so far are, and that it fits.
use Rattle.std.proofs.Common.{◌≡◌, ◌<◌, ◌^◌, drop}
use Rattle.wire.specs.Field.{number_in}
use Rattle.wire.proofs.digits.Given as goal

abbrev pub invariant-loop-i : goal.invariant-loop-i
invariant-loop-i l = record { value : l.v ≡ number_in (drop l.p l.s) l.i; below : l.v < 256 ^ l.i }
