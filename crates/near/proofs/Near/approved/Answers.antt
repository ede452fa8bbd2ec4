use Rattle.std.proofs.Common.{to_z-of_z}
use Rattle.account.specs.Rules.{approve_of}
use Rattle.rules.specs.Model.{account_in}
use Rattle.near.proofs.Near.approved.Goals as goal

pub returns : goal.returns
returns c = λ a b i o m e. c.first_posted.ensures (approve_of (account_in m a).row c.args.amount) a b i o m (simp (to_z-of_z c.ranges.amount, e) at c.approve.ensures) e
