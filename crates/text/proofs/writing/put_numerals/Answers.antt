use Rattle.std.proofs.Common.{arith}
use Rattle.text.specs.LineLaws.{no_number, one_number, all_numbers}
use Rattle.text.proofs.writing.put_numerals.Goals as goal

pub loop-i-init : goal.loop-i-init
loop-i-init c = no_number

pub loop-i-preserved : goal.loop-i-preserved
loop-i-preserved c = one_number c.loop-i-test.true c.loop-i.invariant c.put_spaced-p.ensures

pub returns : goal.returns
returns c = all_numbers (omega arith) c.loop-i.invariant
