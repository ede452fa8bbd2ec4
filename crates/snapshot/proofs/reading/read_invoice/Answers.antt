use mathlib.Core.Path.{refl}
use Rattle.codec.specs.Cursors.{takes_then, takes_via, takes_signed}
use Rattle.snapshot.specs.Layout.{invoice, invoice_from, invoice_parts}
use Rattle.snapshot.proofs.reading.read_invoice.Goals as goal

pub returns : goal.returns
unfolding invoice
returns c =
    takes_via invoice_from invoice_parts (λ x _. refl) (takes_then c.next-id.ensures.takes (takes_then c.next-originator.ensures.takes (takes_then (takes_signed 0x05 c.next-amount.ensures c.of_bits.ensures) c.next-status.ensures.takes)))
