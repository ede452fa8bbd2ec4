use borrow.Author.Tests.{not-true, not-false}
use Rattle.corollary.proofs.Replayed.{replay_sound}
use Rattle.solgaverna.specs.AnswerLaws.{malformed, whole}
use borrow.Author.Rules.{rules}
use Rattle.solgaverna.proofs.snapshots.solgaverna_snapshot.Statement.{statement}
use Rattle.solgaverna.proofs.snapshots.solgaverna_snapshot.Tie as tie

returns : tie.Need-returns-then-not-number
returns c = malformed c.args.out.now _ c.replay-replayed.ensures (not-true _ c.if-not-number.true-raw) c.refused.ensures

put-snapshot-requires : tie.Need-put_snapshot-requires
put-snapshot-requires c κs = replay_sound _ _ c.replay-replayed.ensures

returns-2 : tie.Need-returns
returns-2 c = whole c.args.out.now _ c.replay-replayed.ensures (not-false _ c.if-not-number.false-raw) c.put_snapshot.ensures

pub solgaverna_snapshot_spec : {M : Type 1} → statement M
solgaverna_snapshot_spec = tie.close (tie.spec (λ c κs. search rules) (λ c κs. search rules) returns put-snapshot-requires (λ c. search rules) returns-2)
