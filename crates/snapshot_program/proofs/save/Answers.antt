use Rattle.std.proofs.Common.{arith, sym, length-take-le}
use Rattle.snapshot_program.specs.Size.{saved_within}
use Rattle.snapshot_program.proofs.save.Goals as goal

pub slice_bounds-out-end : goal.slice_bounds-out-end
slice_bounds-out-end g c = omega (arith, saved_within c.write-w.ensures)

pub slice_bounds-replace-end : goal.slice_bounds-replace-end
slice_bounds-replace-end g c = sym (length-take-le _ _ (omega (arith, saved_within c.write-w.ensures)))
