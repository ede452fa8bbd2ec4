use Rattle.refusal.specs.ChoiceLaws.{on, off}
use Rattle.replay.specs.Replay.{replayed_from}
use mathlib.Core.Path.{refl, sym, ◌∙◌}
use borrow.Author.Tests.{not-true, not-false}
use borrow.Author.Rules.{rules}
use Rattle.replay.proofs.replay_from.Statement.{statement}
use Rattle.replay.proofs.replay_from.Tie as tie

returns : tie.Need-returns-then-not-sound
unfolding replayed_from
returns c = off _ (sym c.sound.ensures.0 ∙ not-true c.sound.result c.if-not-sound.true-raw) refl

walk-requires : tie.Need-walk-w-requires
walk-requires c κs = c.sound.ensures.1 (not-false c.sound.result c.if-not-sound.false-raw)

returns-2 : tie.Need-returns
unfolding replayed_from
returns-2 c = on _ (sym c.sound.ensures.0 ∙ not-false c.sound.result c.if-not-sound.false-raw) c.walk-w.ensures.0

pub replay_from_spec : {M : Type 1} → statement M
replay_from_spec = tie.close (tie.spec (λ c κs. search rules) returns (λ c. search rules) walk-requires returns-2)
