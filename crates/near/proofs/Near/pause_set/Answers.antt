use Rattle.settings.specs.Settings.{pause_of}
use Rattle.near.proofs.Near.pause_set.Goals as goal

pub returns : goal.returns
returns c = λ k m e. c.settings_posted.ensures (pause_of m.settings c.args.seats c.args.paused) k m (simp e at c.pause.ensures) e
