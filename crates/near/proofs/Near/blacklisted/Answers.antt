use Rattle.account.specs.Rules.{blacklist_of}
use Rattle.settings.specs.Settings.{admin_passes}
use Rattle.rules.specs.Model.{account_in}
use Rattle.near.proofs.Near.blacklisted.Goals as goal

pub returns : goal.returns
returns c = λ a b i o m e. c.first_posted.ensures (blacklist_of (account_in m a) (admin_passes m.settings c.args.seats) c.args.code) a b i o m (simp (c.admin_passes-allowed.ensures, e) at c.blacklist.ensures) e
