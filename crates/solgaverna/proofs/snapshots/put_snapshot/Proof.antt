use mathlib.Core.Path.{refl}
use borrow.Author.Tests.{not-true, not-false}
use Rattle.solgaverna.specs.SnapshotLaws.{put_refused, put_whole}
use borrow.Author.Rules.{rules}
use Rattle.solgaverna.proofs.snapshots.put_snapshot.Statement.{statement}
use Rattle.solgaverna.proofs.snapshots.put_snapshot.Tie as tie

returns : tie.Need-returns-then-not-short
returns c = put_refused c.requires c.write-w.ensures (not-true _ c.if-not-short.true-raw) c.refused.ensures

returns-2 : tie.Need-returns
returns-2 c = put_whole c.requires c.write-w.ensures (not-false _ c.if-not-short.false-raw) refl

pub put_snapshot_spec : {M : Type 1} → statement M
put_snapshot_spec = tie.close (tie.spec (λ c κs. search rules) (λ c κs. search rules) (λ c. search rules) returns (λ c. search rules) returns-2)
