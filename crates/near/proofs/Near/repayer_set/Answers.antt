use Rattle.settings.specs.Settings.{repayer_of}
use Rattle.rules.specs.Model.{account_in}
use Rattle.std.specs.Prelude.{Some}
use Rattle.rules.specs.Keys.{keys_by}
use Rattle.near.proofs.Near.repayer_set.Goals as goal

pub returns : goal.returns
returns c = λ b i o m e. c.settings_posted.ensures (repayer_of m.settings c.args.seats c.args.id (account_in m c.args.id).here) (keys_by (Some c.args.id) b i o) m (simp e at c.set_repayer.ensures) e
