use mathlib.Core.Path.{refl}
use Rattle.codec.specs.Cursors.{takes_then, takes_via, takes_signed}
use Rattle.snapshot.specs.Layout.{purse, purse_from, purse_parts}
use Rattle.snapshot.proofs.reading.read_purse.Goals as goal

pub returns : goal.returns
unfolding purse
returns c =
    takes_via purse_from purse_parts (λ x _. refl) (takes_then (takes_signed 0x71 c.next-balance.ensures c.of_bits.ensures) (takes_then (takes_signed 0x72 c.next-allowance.ensures c.of_bits-2.ensures) (takes_then (takes_signed 0x73 c.next-offered.ensures c.of_bits-3.ensures) (takes_signed 0x74 c.next-accepted.ensures c.of_bits-4.ensures))))
