use Rattle.settings.specs.Settings.{window_of}
use Rattle.near.proofs.Near.window_set.Goals as goal

pub returns : goal.returns
returns c = λ k m e. c.settings_posted.ensures (window_of m.settings c.args.seats c.args.window) k m (simp e at c.set_window.ensures) e
