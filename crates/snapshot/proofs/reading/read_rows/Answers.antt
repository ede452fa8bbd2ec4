use Rattle.std.proofs.Common.{arith}
use Rattle.snapshot.specs.Filling.{table_start, table_turn, nothing_padded}
use Rattle.snapshot.proofs.reading.read_rows.Goals as goal

pub loop-i-init : goal.loop-i-init
loop-i-init g c = table_start _ _ _ _ _ (nothing_padded _ _ 64) (nothing_padded _ _ 64)

pub loop-i-preserved : goal.loop-i-preserved
loop-i-preserved g c = table_turn _ _ _ _ _ (omega (arith, c.loop-i-test.true, c.requires)) c.loop-i.invariant c.read-g.ensures
