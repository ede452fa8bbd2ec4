-- The parts of a deal that the offers' arrays hold.
use mathlib.Core.List.{List}
use Prim.Native.Nat.{ℕ}
use Rattle.negotiation.specs.declared.Negotiation.{Negotiation}
use Rattle.terms.specs.declared.Schedule.{Schedule}
use Rattle.offer.specs.declared.Offer.{Offer}
use Rattle.offer.specs.declared.Deal.{Deal}
use Rattle.shelves.specs.declared.Offers.{Offers}

abbrev pub offer_in : Deal → Offer
offer_in d = d.offer

abbrev pub talk_in : Deal → Negotiation
talk_in d = d.negotiation

abbrev pub plan_in : Deal → Schedule
plan_in d = d.schedule

abbrev pub offers_of : List ℕ → List Offer → List Negotiation → List Schedule → ℕ → Offers
offers_of ids rs ns ss n = record { ids = ids; rows = rs; negotiations = ns; schedules = ss; count = n }
