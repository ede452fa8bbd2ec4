use Rattle.lists.specs.Pick.{Walked}
use Rattle.lists.specs.Listing.{offers_of, taking}
use Rattle.lists.proofs.OfferRows.count_of.Given as goal

abbrev pub invariant-loop-i : goal.invariant-loop-i
invariant-loop-i l = Walked (taking l.w) (offers_of l.self) l.i l.n
