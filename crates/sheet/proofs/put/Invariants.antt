use Rattle.std.proofs.Common.{take}
use Rattle.sheet.specs.Sheet.{Wrote}
use Rattle.sheet.proofs.put.Given as goal

abbrev pub invariant-loop-b : goal.invariant-loop-b
invariant-loop-b l = Wrote l.ink (take l.b-index l.w) l.initial.out l.fn.pen l.out l.pen
