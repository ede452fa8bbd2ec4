use mathlib.Core.Path.{refl}
use Rattle.codec.specs.Cursors.{takes_then, takes_via}
use Rattle.snapshot.specs.Layout.{deal, deal_from, deal_parts}
use Rattle.snapshot.proofs.reading.read_deal.Goals as goal

pub returns : goal.returns
unfolding deal
returns c =
    takes_via deal_from deal_parts (λ x _. refl) (takes_then c.next-id.ensures.takes (takes_then c.read_offer-o.ensures (takes_then c.read_negotiation-n.ensures c.read_schedule-p.ensures)))
