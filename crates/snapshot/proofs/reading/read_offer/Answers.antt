use mathlib.Core.Path.{refl}
use Rattle.codec.specs.Cursors.{takes_then, takes_via, takes_signed}
use Rattle.snapshot.specs.Layout.{offer, offer_from, offer_parts}
use Rattle.snapshot.proofs.reading.read_offer.Goals as goal

pub returns : goal.returns
unfolding offer
returns c =
    takes_via offer_from offer_parts (λ x _. refl) (takes_then c.next-invoice.ensures.takes (takes_then c.next-lender.ensures.takes (takes_then c.read_terms-t.ensures (takes_then c.next-expires.ensures.takes (takes_then c.next-status.ensures.takes (takes_then c.next-funded.ensures.takes (takes_signed 0x94 c.next-repaid.ensures c.of_bits.ensures)))))))
