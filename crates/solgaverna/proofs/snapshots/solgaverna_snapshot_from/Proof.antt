use borrow.Author.Tests.{not-true, not-false}
use Rattle.solgaverna.specs.AnswerLaws.{malformed, whole}
use Rattle.solgaverna.specs.SnapshotLaws.{unread, read, read_sound}
use borrow.Author.Rules.{rules}
use Rattle.solgaverna.proofs.snapshots.solgaverna_snapshot_from.Statement.{statement}
use Rattle.solgaverna.proofs.snapshots.solgaverna_snapshot_from.Tie as tie

returns : tie.Need-returns-then-not-wrong
returns c = let a = c.args in unread a.from.now a.out.now _ c.read-loaded.ensures (not-true _ c.if-not-wrong.true-raw) c.refused.ensures

goes-on-requires : tie.Need-goes_on-gone-requires
goes-on-requires c κs = read_sound _ c.read-loaded.ensures (not-false _ c.if-not-wrong.false-raw)

returns-2 : tie.Need-returns-then-not-stopped
returns-2 c = let a = c.args in read a.from.now a.out.now _ c.read-loaded.ensures (not-false _ c.if-not-wrong.false-raw) (malformed a.out.now _ c.goes_on-gone.ensures.0 (not-true _ c.if-not-stopped.true-raw) c.refused-then-not-stopped.ensures)

put-snapshot-requires : tie.Need-put_snapshot-requires
put-snapshot-requires c κs = search rules

returns-3 : tie.Need-returns
returns-3 c = let a = c.args in read a.from.now a.out.now _ c.read-loaded.ensures (not-false _ c.if-not-wrong.false-raw) (whole a.out.now _ c.goes_on-gone.ensures.0 (not-false _ c.if-not-stopped.false-raw) c.put_snapshot.ensures)

pub solgaverna_snapshot_from_spec : {M : Type 1} → statement M
solgaverna_snapshot_from_spec = tie.close (tie.spec (λ c κs. search rules) (λ c κs. search rules) returns goes-on-requires (λ c κs. search rules) returns-2 put-snapshot-requires (λ c. search rules) returns-3)
