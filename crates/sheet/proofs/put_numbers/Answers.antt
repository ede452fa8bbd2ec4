use Rattle.std.proofs.Common.{◌<◌, length, sym, ap, arith, take_all}
use Rattle.sheet.specs.SheetLaws.{next, retext, none}
use Rattle.sheet.specs.Decimal.{spaced, numbers_of}
use Rattle.sheet.specs.DecimalLaws.{spaced_turn}
use Rattle.sheet.proofs.put_numbers.Goals as goal

pub loop-n-init : goal.loop-n-init
unfolding spaced
loop-n-init c = none _ _ _

pub loop-n-preserved : goal.loop-n-preserved
loop-n-preserved c =
    let l = c.loop-n in
    let h : l.n-index < length c.args.xs.now = c.loop-n-test.true in
    retext (next l.invariant (next c.put-pen.ensures c.put_decimal-pen.ensures)) (sym (spaced_turn _ l.n-index h))

pub returns : goal.returns
unfolding numbers_of
returns c =
    let l = c.loop-n in
    next (retext l.invariant (ap spaced (take_all l.n-index _ (omega arith)))) c.put.ensures
