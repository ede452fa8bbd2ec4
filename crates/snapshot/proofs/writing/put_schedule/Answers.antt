use Rattle.money.specs.Facts.{back}
use borrow.Author.Rules.{rules}
use mathlib.Core.Path.{refl}
use Rattle.codec.specs.Puts.{as_signed, puts_then, puts_via}
use Rattle.snapshot.specs.Layout.{schedule, schedule_from, schedule_parts}
use Rattle.snapshot.proofs.writing.put_schedule.Goals as goal

pub returns : goal.returns
unfolding schedule
returns c =
    puts_via schedule_from schedule_parts (λ x _. refl) refl
    (puts_then c.put-p.ensures (puts_then c.put-q.ensures (puts_then (as_signed 0x99 (back c.args.row.installment (search rules)) c.put-u.ensures) (puts_then c.put-v.ensures c.put_kept.ensures))))
