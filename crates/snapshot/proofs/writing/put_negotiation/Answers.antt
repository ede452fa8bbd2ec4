use mathlib.Core.Path.{◌≡◌}
use lib.ListN.{length}
use borrow.Author.Rules.{rules}
use Rattle.edition.specs.Edition.{round_limit}
use Rattle.offer.specs.Kept.{limit_in_slots}
use Rattle.codec.specs.Puts.{puts_then, puts_via}
use Rattle.snapshot.specs.Layout.{negotiation, negotiation_from, negotiation_parts}
use Rattle.snapshot.specs.Rounds.{same_rounds, few_rounds}
use Rattle.snapshot.proofs.writing.put_negotiation.Goals as goal

pub put_rounds-requires : goal.put_rounds-requires
put_rounds-requires c = few_rounds _ c.args.row c.requires

pub returns : goal.returns
unfolding negotiation
returns c =
    let row = c.args.row in
    let long : length row.rounds ≡ 16 = search rules in
    puts_via negotiation_from negotiation_parts _ (same_rounds (round_limit c.args.edition) row c.requires (limit_in_slots c.args.edition) long) (puts_then c.put-p.ensures (puts_then c.put-q.ensures c.put_rounds.ensures))
