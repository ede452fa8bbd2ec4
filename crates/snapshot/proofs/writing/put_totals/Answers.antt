use Rattle.money.specs.Facts.{back}
use borrow.Author.Rules.{rules}
use mathlib.Core.Path.{refl}
use Rattle.codec.specs.Puts.{as_signed, puts_then, puts_via}
use Rattle.snapshot.specs.Layout.{totals, totals_from, totals_parts}
use Rattle.snapshot.proofs.writing.put_totals.Goals as goal

pub returns : goal.returns
unfolding totals
returns c =
    puts_via totals_from totals_parts (λ x _. refl) refl (puts_then c.put-p.ensures (puts_then (as_signed 0x64 (back c.args.row.financed (search rules)) c.put-q.ensures) (puts_then (as_signed 0x65 (back c.args.row.repaid (search rules)) c.put-u.ensures) (as_signed 0x66 (back c.args.row.fees (search rules)) c.put.ensures))))
