use Rattle.std.proofs.Common.{arith, sym, length-take-le}
use Rattle.replay.proofs.Room.{desk_most}
use Rattle.desk.proofs.show.Goals as goal

pub slice_bounds-out-end : goal.slice_bounds-out-end
slice_bounds-out-end c = omega (arith, desk_most _ c.list-k.ensures.0 (c.goes_on.ensures c.if-goes_on.false))

pub slice_bounds-write_all-end : goal.slice_bounds-write_all-end
slice_bounds-write_all-end c = sym (length-take-le _ _ (omega (arith, desk_most _ c.list-k.ensures.0 (c.goes_on.ensures c.if-goes_on.false))))
