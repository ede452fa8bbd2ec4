use Rattle.offer.specs.Rules.{withdraw_of}
use Rattle.rules.specs.Model.{offer_in}
use Rattle.std.specs.Prelude.{Some}
use Rattle.near.proofs.Near.withdrawn.Goals as goal

pub returns : goal.returns
returns c = λ o a b m e. c.deal_posted.ensures (withdraw_of (offer_in m o) c.args.caller) o a b (Some (offer_in m o).row.offer.invoice) m (simp e at c.withdraw.ensures) e
