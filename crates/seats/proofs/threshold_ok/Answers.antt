use Rattle.std.proofs.Common.{arith, le-leb}
use Rattle.seats.specs.Seats.{reaches_of, threshold_ok}
use Rattle.seats.specs.Counting.{all-present}
use Rattle.seats.proofs.threshold_ok.Goals as goal

pub returns-then-threshold-ge1 : goal.returns-then-threshold-ge1
unfolding threshold_ok reaches_of
returns-then-threshold-ge1 c =
    let h = c.in-Ok.ensures in
    rw (c.reaches.ensures, h.1, all-present, le-leb c.args.next 4294967295 (omega arith), le-leb 1 c.args.threshold c.if-threshold-ge1.true)
