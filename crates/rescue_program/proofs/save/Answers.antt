use Rattle.std.proofs.Common.{sym, length-take-le}
use Rattle.rescue.proofs.Room.{takes}
use Rattle.rescue_program.proofs.save.Goals as goal

pub slice_bounds-clean-end : goal.slice_bounds-clean-end
slice_bounds-clean-end g c = (takes _ _ _ c.in-Ok.ensures.0 c.in-Ok.ensures.1).0

pub slice_bounds-put-end : goal.slice_bounds-put-end
slice_bounds-put-end g c = sym (length-take-le _ _ (takes _ _ _ c.in-Ok.ensures.0 c.in-Ok.ensures.1).0)

pub slice_bounds-report-end : goal.slice_bounds-report-end
slice_bounds-report-end g c = (takes _ _ _ c.in-Ok.ensures.0 c.in-Ok.ensures.1).1

pub slice_bounds-put-end-in-Ok : goal.slice_bounds-put-end-in-Ok
slice_bounds-put-end-in-Ok g c = sym (length-take-le _ _ (takes _ _ _ c.in-Ok.ensures.0 c.in-Ok.ensures.1).1)
