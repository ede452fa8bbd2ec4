use Rattle.replay.specs.Text.{listing_of}
use Rattle.replay.specs.Standing.{fresh}
use Rattle.replay.specs.Heading.{edition_known}
use Rattle.replay.proofs.Room.{fresh_bounded}
use borrow.Author.Rules.{rules}
use Rattle.replay.proofs.listing.Statement.{statement}
use Rattle.replay.proofs.listing.Tie as tie

list-requires : tie.Need-list-requires
list-requires c κs = let f = fresh c.fresh_for-book.ensures in (f.shelved, rw f.model (fresh_bounded _ (edition_known c.args.s.now)))

returns : tie.Need-returns
unfolding listing_of
returns c = rw (fresh c.fresh_for-book.ensures).model at c.list.ensures

pub listing_spec : {M : Type 1} → statement M
listing_spec = tie.close (tie.spec (λ c κs. search rules) list-requires (λ c. search rules) returns)
