use Rattle.lists.specs.Sum.{Summed}
use Rattle.lists.specs.Listing.{offers_of}
use Rattle.lists.specs.Active.{active_in}
use Rattle.lists.proofs.OfferRows.active_total.Given as goal

abbrev pub invariant-loop-i : goal.invariant-loop-i
invariant-loop-i l = Summed (active_in l.lender) 1000000000000 (offers_of l.self) l.i l.sum
