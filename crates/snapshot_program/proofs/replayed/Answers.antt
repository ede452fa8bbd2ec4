use Rattle.refusal.specs.ChoiceLaws.{on, off}
use Rattle.snapshot_program.proofs.replayed.Goals as goal

pub returns-then-start : goal.returns-then-start
returns-then-start c = on _ c.if-start.true c.replay_from.ensures

pub returns : goal.returns
returns c = off _ c.if-start.false c.replay.ensures
