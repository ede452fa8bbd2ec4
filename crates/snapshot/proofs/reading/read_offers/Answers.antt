use Rattle.std.proofs.Common.{ap, arith}
use Rattle.shelves.specs.declared.Offers.{Offers}
use Rattle.snapshot.specs.Filling.{parts_start, parts_turn, parts_done}
use Rattle.snapshot.proofs.Parts.{offer_in, talk_in, plan_in, offers_of}
use Rattle.snapshot.proofs.reading.read_offers.Goals as goal

pub loop-i-init : goal.loop-i-init
loop-i-init c =
    let e = c.none-none.ensures in
    parts_start _ _ _ _ _ _ _ _ (ap (λ (x : Offers). x.ids) e) (ap (λ (x : Offers). x.rows) e) (ap (λ (x : Offers). x.negotiations) e) (ap (λ (x : Offers). x.schedules) e)

pub loop-i-preserved : goal.loop-i-preserved
loop-i-preserved c = parts_turn _ _ _ _ _ _ _ _ (omega (arith, c.loop-i-test.true, c.count-k.ensures.low)) c.loop-i.invariant c.read_deal-g.ensures

pub returns : goal.returns
returns c = parts_done offer_in talk_in plan_in offers_of c.count-k.ensures (omega arith) c.loop-i.invariant
