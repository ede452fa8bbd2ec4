use Rattle.lists.specs.Written.{Wrote}
use Rattle.lists.specs.Listing.{offers_of, taking, ten_of}
use Rattle.lists.proofs.OfferRows.write.Given as goal

abbrev pub invariant-loop-i : goal.invariant-loop-i
invariant-loop-i l = Wrote (taking l.w) ten_of (offers_of l.self) l.initial.out l.i l.n l.out
