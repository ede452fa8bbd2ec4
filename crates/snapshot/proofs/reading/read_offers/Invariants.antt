use Rattle.offer.specs.Offer.{no_deal}
use Rattle.snapshot.specs.Layout.{deal}
use Rattle.snapshot.specs.Filling.{FillingParts}
use Rattle.snapshot.proofs.Parts.{offer_in, talk_in, plan_in}
use Rattle.snapshot.proofs.reading.read_offers.Given as goal

abbrev pub invariant-loop-i : goal.invariant-loop-i
invariant-loop-i l = FillingParts offer_in talk_in plan_in (deal l.edition) no_deal 64 l.s l.initial.d l.i l.ids l.rows l.negotiations l.schedules l.d
