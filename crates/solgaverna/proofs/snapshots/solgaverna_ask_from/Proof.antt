use borrow.Author.Tests.{not-true, not-false}
use Rattle.solgaverna.specs.AnswerLaws.{malformed, whole, sizes}
use Rattle.solgaverna.specs.SnapshotLaws.{unread, read, read_sound}
use borrow.Author.Rules.{rules}
use Rattle.solgaverna.proofs.snapshots.solgaverna_ask_from.Statement.{statement}
use Rattle.solgaverna.proofs.snapshots.solgaverna_ask_from.Tie as tie

returns : tie.Need-returns-then-not-fault
returns c = let a = c.args in unread a.from.now a.out.now _ c.read-loaded.ensures (not-true _ c.if-not-fault.true-raw) c.refused.ensures

goes-on-requires : tie.Need-goes_on-gone_on-requires
goes-on-requires c κs = read_sound _ c.read-loaded.ensures (not-false _ c.if-not-fault.false-raw)

returns-2 : tie.Need-returns-then-not-ended
returns-2 c = let a = c.args in read a.from.now a.out.now _ c.read-loaded.ensures (not-false _ c.if-not-fault.false-raw) (malformed a.out.now _ c.goes_on-gone_on.ensures.0 (not-true _ c.if-not-ended.true-raw) c.refused-then-not-ended.ensures)

answers-sound-requires : tie.Need-answers_sound-r-requires
answers-sound-requires c κs = search rules

returns-3 : tie.Need-returns
returns-3 c = let a = c.args in read a.from.now a.out.now _ c.read-loaded.ensures (not-false _ c.if-not-fault.false-raw) (whole a.out.now _ c.goes_on-gone_on.ensures.0 (not-false _ c.if-not-ended.false-raw) (sizes c.sized.ensures c.answers_sound-r.ensures))

pub solgaverna_ask_from_spec : {M : Type 1} → statement M
solgaverna_ask_from_spec = tie.close (tie.spec (λ c κs. search rules) (λ c κs. search rules) returns goes-on-requires (λ c κs. search rules) returns-2 answers-sound-requires (λ c κs. search rules) (λ c. search rules) returns-3)
