use mathlib.Core.Path.{refl}
use Rattle.codec.specs.Cursors.{takes_then, takes_via, takes_signed}
use Rattle.snapshot.specs.Layout.{terms, terms_from, terms_parts}
use Rattle.snapshot.proofs.reading.read_terms.Goals as goal

pub returns : goal.returns
unfolding terms
returns c =
    takes_via terms_from terms_parts (λ x _. refl) (takes_then (takes_signed 0x05 c.next-amount.ensures c.of_bits.ensures) (takes_then c.next-rate.ensures.takes c.next-duration.ensures.takes))
