use Rattle.std.proofs.Common.{arith, sym, length-take-le}
use Rattle.ask.proofs.say_start.Goals as goal

pub slice_bounds-say-end-2 : goal.slice_bounds-say-end-2
slice_bounds-say-end-2 c = sym (length-take-le 64 c.args.line.now (omega (arith, c.find_end-end.ensures, c.if-end-lt64.false)))
