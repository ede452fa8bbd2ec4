use Rattle.settings.specs.Settings.{seats_of}
use Rattle.near.proofs.Near.seats_set.Goals as goal

pub returns : goal.returns
returns c = λ k m e. c.settings_posted.ensures (seats_of m.settings c.args.seats c.args.threshold c.args.fresh) k m (simp e at c.set_seats.ensures) e
