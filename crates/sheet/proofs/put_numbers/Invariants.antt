use Rattle.std.proofs.Common.{take}
use Rattle.sheet.specs.Sheet.{Wrote}
use Rattle.sheet.specs.Decimal.{spaced}
use Rattle.sheet.proofs.put_numbers.Given as goal

abbrev pub invariant-loop-n : goal.invariant-loop-n
invariant-loop-n l = Wrote l.ink (spaced (take l.n-index l.xs)) l.initial.out l.fn.pen l.out l.pen
