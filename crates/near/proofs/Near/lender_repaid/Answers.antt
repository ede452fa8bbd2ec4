use Rattle.account.specs.Rules.{lender_repaid_of}
use Rattle.settings.specs.Settings.{is_repayer}
use Rattle.rules.specs.Model.{account_in}
use Rattle.near.proofs.Near.lender_repaid.Goals as goal

pub returns : goal.returns
returns c = λ b a i o m e. c.second_posted.ensures (lender_repaid_of (account_in m b) (is_repayer m.settings c.args.caller) c.args.flag) b a i o m (simp (c.is_repayer-allowed.ensures, e) at c.lender_repaid.ensures) e
