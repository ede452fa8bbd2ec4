use Rattle.std.proofs.Common.{sym, ◌∙◌}
use Rattle.table.specs.All.{check_start, check_turn, check_done, both_same}
use Rattle.table.proofs.TestLaws.{by_use_lem}
use Rattle.shelves.specs.Invoices.{invoices_test}
use Rattle.shelves.proofs.Invoices.sound.Goals as goal

pub loop-i-init : goal.loop-i-init
loop-i-init c = check_start _ _

pub loop-i-preserved : goal.loop-i-preserved
loop-i-preserved c = check_turn c.loop-i.invariant c.loop-i-test.true (c.fits-ok.ensures ∙ sym (by_use_lem _ c.loop-i.i _ _))

pub returns-clause-tested : goal.returns-clause-tested
unfolding invoices_test
returns-clause-tested c = both_same c.ids_sound.ensures (check_done c.loop-i.invariant c.loop-i-test.false)
