use Rattle.std.proofs.Common.{◌<◌, length}
use Rattle.sheet.specs.SheetLaws.{turn, none}
use Rattle.sheet.proofs.put.Goals as goal

pub loop-b-init : goal.loop-b-init
loop-b-init c = none _ _ _

pub loop-b-preserved : goal.loop-b-preserved
loop-b-preserved c =
    let l = c.loop-b in
    let h : l.b-index < length c.args.w.now = c.loop-b-test.true in
    turn _ l.b-index h l.invariant c.put_byte-pen.ensures
