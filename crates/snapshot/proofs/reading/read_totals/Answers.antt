use mathlib.Core.Path.{refl}
use Rattle.codec.specs.Cursors.{takes_then, takes_via, takes_signed}
use Rattle.snapshot.specs.Layout.{totals, totals_from, totals_parts}
use Rattle.snapshot.proofs.reading.read_totals.Goals as goal

pub returns : goal.returns
unfolding totals
returns c =
    takes_via totals_from totals_parts (λ x _. refl) (takes_then c.next-offers.ensures.takes (takes_then (takes_signed 0x64 c.next-financed.ensures c.of_bits.ensures) (takes_then (takes_signed 0x65 c.next-repaid.ensures c.of_bits-2.ensures) (takes_signed 0x66 c.next-fees.ensures c.of_bits-3.ensures))))
