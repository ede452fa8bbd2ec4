use mathlib.Core.Path.{◌∙◌}
use Rattle.refusal.specs.ChoiceLaws.{pick_on}
use Rattle.replay.specs.Replay.{replayed_from}
use Rattle.replay.specs.Typing.{typed}
use Rattle.corollary.proofs.Replayed.{from_sound, from_shelved}
use borrow.Author.Rules.{rules}
use Rattle.solgaverna.proofs.snapshots.goes_on.Statement.{statement}
use Rattle.solgaverna.proofs.snapshots.goes_on.Tie as tie

returns : tie.Need-returns
unfolding replayed_from
returns c = let a = c.args in let t = c.requires in let y = typed a.book _ c.well_formed.0 in let e = c.replay_from.ensures in (e ∙ pick_on _ _ t, (from_sound a.book y t a.journal.now _ e, from_shelved a.book y t a.journal.now _ e))

pub goes_on_spec : {M : Type 1} → statement M
goes_on_spec = tie.close (tie.spec (λ c κs. search rules) returns)
