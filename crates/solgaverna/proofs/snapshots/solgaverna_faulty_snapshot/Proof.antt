use mathlib.Core.Path.{ap, ◌∙◌}
use borrow.Author.Tests.{not-true, not-false}
use Rattle.solgaverna.specs.Snapshots.{wrong_field}
use Rattle.solgaverna.specs.SnapshotLaws.{no_fault, fault}
use borrow.Author.Rules.{rules}
use Rattle.solgaverna.proofs.snapshots.solgaverna_faulty_snapshot.Statement.{statement}
use Rattle.solgaverna.proofs.snapshots.solgaverna_faulty_snapshot.Tie as tie

returns : tie.Need-returns-then-not-number
returns c = no_fault _ (not-true _ c.if-not-number.true-raw) ∙ ap wrong_field c.read-loaded.ensures

returns-2 : tie.Need-returns
returns-2 c = fault _ (not-false _ c.if-not-number.false-raw) ∙ ap wrong_field c.read-loaded.ensures

pub solgaverna_faulty_snapshot_spec : {M : Type 1} → statement M
solgaverna_faulty_snapshot_spec = tie.close (tie.spec (λ c κs. search rules) returns returns-2)
