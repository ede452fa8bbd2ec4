use Rattle.std.proofs.Common.{arith}
use Rattle.codec.specs.Puts.{held_column}
use Rattle.codec.proofs.U64Column.word.Goals as goal

pub returns : goal.returns
returns c = held_column _ (omega (arith, c.ranges.self)) (omega (arith, c.ranges.self))
