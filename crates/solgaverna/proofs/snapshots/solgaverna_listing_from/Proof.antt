use borrow.Author.Tests.{not-true, not-false}
use Rattle.solgaverna.specs.SnapshotLaws.{unread, read, read_sound, listing_told}
use borrow.Author.Rules.{rules}
use Rattle.solgaverna.proofs.snapshots.solgaverna_listing_from.Statement.{statement}
use Rattle.solgaverna.proofs.snapshots.solgaverna_listing_from.Tie as tie

returns : tie.Need-returns-then-not-unread
returns c = let a = c.args in unread a.from.now a.out.now _ c.read-loaded.ensures (not-true _ c.if-not-unread.true-raw) c.refused.ensures

returns-2 : tie.Need-returns
returns-2 c = let a = c.args in let e = c.read-loaded.ensures in let z = not-false _ c.if-not-unread.false-raw in read a.from.now a.out.now _ e z (listing_told _ _ _ (read_sound _ e z) c.listed.ensures c.listing_from-r.ensures)

pub solgaverna_listing_from_spec : {M : Type 1} → statement M
solgaverna_listing_from_spec = tie.close (tie.spec (λ c κs. search rules) (λ c κs. search rules) returns (λ c κs. search rules) (λ c κs. search rules) (λ c. search rules) returns-2)
