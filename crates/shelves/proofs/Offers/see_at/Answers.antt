use Rattle.std.proofs.Common.{arith, sym, ap, ◌∙◌}
use Rattle.table.proofs.SpotLaws.{spot_below}
use Rattle.offer.specs.Seen.{seen_deal}
use Rattle.shelves.specs.Placing.{deal_read_lem}
use Rattle.shelves.proofs.Offers.see_at.Goals as goal

pub offset_bounds-self-spot : goal.offset_bounds-self-spot
offset_bounds-self-spot c = let b = spot_below c.requires.deals.shelf (omega arith) c.args.key c.requires.found in omega (arith, b)

pub bounds-self-spot : goal.bounds-self-spot
bounds-self-spot c = spot_below c.requires.deals.shelf (omega arith) c.args.key c.requires.found

pub offset_bounds-self-spot-2 : goal.offset_bounds-self-spot-2
offset_bounds-self-spot-2 c = let b = spot_below c.requires.deals.shelf (omega arith) c.args.key c.requires.found in omega (arith, b)

pub bounds-self-spot-2 : goal.bounds-self-spot-2
bounds-self-spot-2 c = spot_below c.requires.deals.shelf (omega arith) c.args.key c.requires.found

pub offset_bounds-self-spot-3 : goal.offset_bounds-self-spot-3
offset_bounds-self-spot-3 c = let b = spot_below c.requires.deals.shelf (omega arith) c.args.key c.requires.found in omega (arith, b)

pub bounds-self-spot-3 : goal.bounds-self-spot-3
bounds-self-spot-3 c = spot_below c.requires.deals.shelf (omega arith) c.args.key c.requires.found

pub returns : goal.returns
returns c = c.at.ensures ∙ ap seen_deal (sym (deal_read_lem c.requires.deals _ _ _ c.args.key c.requires.found))
