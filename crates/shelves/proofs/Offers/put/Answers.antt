use Rattle.std.proofs.Common.{arith}
use Rattle.table.proofs.SpotLaws.{spot_below}
use Rattle.offer.specs.Offer.{no_deal}
use Rattle.shelves.specs.Placing.{deal_there, deal_gone}
use Rattle.shelves.proofs.Offers.put.Goals as goal

pub offset_bounds-self-place : goal.offset_bounds-self-place
offset_bounds-self-place c = let b = spot_below c.requires.deals.shelf (omega arith) c.args.key c.requires.found in omega (arith, b)

pub bounds-self-place : goal.bounds-self-place
bounds-self-place c = spot_below c.requires.deals.shelf (omega arith) c.args.key c.requires.found

pub offset_bounds-self-place-then-place : goal.offset_bounds-self-place-then-place
offset_bounds-self-place-then-place c = let b = spot_below c.requires.deals.shelf (omega arith) c.args.key c.requires.found in omega (arith, b)

pub bounds-self-place-then-place : goal.bounds-self-place-then-place
bounds-self-place-then-place c = spot_below c.requires.deals.shelf (omega arith) c.args.key c.requires.found

pub offset_bounds-self-place-then-place-2 : goal.offset_bounds-self-place-then-place-2
offset_bounds-self-place-then-place-2 c = let b = spot_below c.requires.deals.shelf (omega arith) c.args.key c.requires.found in omega (arith, b)

pub bounds-self-place-then-place-2 : goal.bounds-self-place-then-place-2
bounds-self-place-then-place-2 c = spot_below c.requires.deals.shelf (omega arith) c.args.key c.requires.found

pub returns-then-place : goal.returns-then-place
returns-then-place c = deal_there c.requires.deals no_deal.offer no_deal.negotiation no_deal.schedule c.args.key c.requires.found c.args.deal c.if-place.true

pub returns-else-place : goal.returns-else-place
returns-else-place c = deal_gone c.requires.deals no_deal.offer no_deal.negotiation no_deal.schedule c.args.key c.requires.found c.args.deal c.if-place.false
