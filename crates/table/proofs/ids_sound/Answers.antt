use Rattle.std.proofs.Common.{refl, add-one}
use Rattle.table.specs.All.{check_start, check_turn, check_done}
use Rattle.table.proofs.ids_sound.Goals as goal

pub loop-i-init : goal.loop-i-init
loop-i-init c = (refl, check_start _ _)

pub loop-i-preserved : goal.loop-i-preserved
loop-i-preserved c = (rw add-one, check_turn c.loop-i.invariant.1 c.loop-i-test.true (rw c.loop-i.invariant.0))

pub returns : goal.returns
returns c = rw (check_done c.loop-i.invariant.1 c.loop-i-test.false)
