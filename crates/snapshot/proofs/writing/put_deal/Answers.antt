use mathlib.Core.Path.{refl}
use Rattle.codec.specs.Puts.{puts_then, puts_via}
use Rattle.snapshot.specs.Layout.{deal, deal_from, deal_parts}
use Rattle.snapshot.specs.Rounds.{deal_rounds, deal_schedule}
use Rattle.snapshot.proofs.writing.put_deal.Goals as goal

pub put_negotiation-u-requires : goal.put_negotiation-u-requires
put_negotiation-u-requires c = deal_rounds _ _ c.requires

pub put_schedule-requires : goal.put_schedule-requires
put_schedule-requires c = deal_schedule _ _ c.requires

pub returns : goal.returns
unfolding deal
returns c =
    puts_via deal_from deal_parts (λ x _. refl) refl (puts_then c.put-p.ensures (puts_then c.put_offer-q.ensures (puts_then c.put_negotiation-u.ensures c.put_schedule.ensures)))
