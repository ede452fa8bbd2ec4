use Rattle.std.proofs.Common.{to_z-of_z}
use Rattle.account.specs.Rules.{deposit_of}
use Rattle.rules.specs.Model.{account_in}
use Rattle.near.proofs.Near.deposited.Goals as goal

pub returns : goal.returns
returns c = λ a b i o m e. c.first_posted.ensures (deposit_of (account_in m a).row c.args.amount) a b i o m (simp (to_z-of_z c.ranges.amount, e) at c.deposit.ensures) e
