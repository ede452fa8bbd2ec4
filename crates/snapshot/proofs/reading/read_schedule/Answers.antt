use mathlib.Core.Path.{refl}
use borrow.Author.Rules.{rules}
use Rattle.money.specs.Facts.{back}
use Rattle.codec.specs.Cursors.{takes_then, takes_via, takes_signed}
use Rattle.snapshot.specs.Layout.{schedule, schedule_from, schedule_parts}
use Rattle.snapshot.proofs.reading.read_schedule.Goals as goal

pub returns : goal.returns
unfolding schedule
returns c =
    simp (back c.read_kept-k.result.row.0 (search rules)) (takes_via schedule_from schedule_parts (λ x _. refl) (takes_then c.next-count.ensures.takes (takes_then c.next-code.ensures.takes (takes_then (takes_signed 0x99 c.next-installment.ensures c.of_bits.ensures) (takes_then c.next-first.ensures.takes c.read_kept-k.ensures)))))
