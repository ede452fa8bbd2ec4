use Rattle.replay.specs.Replay.{replay_on, replay_of, outcome_of}
use Rattle.replay.specs.Standing.{fresh}
use mathlib.Core.Path.{ap, ◌∙◌}
use borrow.Author.Rules.{rules}
use Rattle.replay.proofs.replay.Statement.{statement}
use Rattle.replay.proofs.replay.Tie as tie

walk-requires : tie.Need-walk-w-requires
walk-requires c κs = (fresh c.fresh_for-book.ensures).shelved

returns : tie.Need-returns
unfolding replay_of
returns c = c.walk-w.ensures.0 ∙ ap (λ m. outcome_of 0 (replay_on m c.args.s.now)) (fresh c.fresh_for-book.ensures).model

pub replay_spec : {M : Type 1} → statement M
replay_spec = tie.close (tie.spec (λ c κs. search rules) (λ c. search rules) walk-requires returns)
