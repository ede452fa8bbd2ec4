use mathlib.Core.Path.{refl}
use Rattle.codec.specs.Cursors.{takes_then, takes_via}
use Rattle.snapshot.specs.Layout.{round, round_from, round_parts}
use Rattle.snapshot.proofs.reading.read_round.Goals as goal

pub returns : goal.returns
unfolding round
returns c =
    rw c.new-row.ensures (takes_via round_from round_parts (λ x _. refl) (takes_then c.next-party.ensures.takes (takes_then c.read_terms-t.ensures c.next-time.ensures.takes)))
