use Rattle.money.specs.Facts.{back}
use borrow.Author.Rules.{rules}
use mathlib.Core.Path.{refl}
use Rattle.codec.specs.Puts.{as_signed, puts_then, puts_via}
use Rattle.snapshot.specs.Layout.{invoice, invoice_from, invoice_parts}
use Rattle.snapshot.proofs.writing.put_invoice.Goals as goal

pub returns : goal.returns
unfolding invoice
returns c =
    puts_via invoice_from invoice_parts (λ x _. refl) refl (puts_then c.put-p.ensures (puts_then c.put-q.ensures (puts_then (as_signed 0x05 (back c.args.row.amount (search rules)) c.put-u.ensures) c.put.ensures)))
