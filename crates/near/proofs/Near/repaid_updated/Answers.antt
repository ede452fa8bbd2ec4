use Rattle.std.proofs.Common.{to_z-of_z}
use Rattle.settings.specs.Settings.{is_repayer}
use Rattle.offer.specs.Rules.{repaid_update_of}
use Rattle.rules.specs.Model.{offer_in}
use Rattle.std.specs.Prelude.{Some}
use Rattle.near.proofs.Near.repaid_updated.Goals as goal

pub returns : goal.returns
returns c = λ o a b m e. c.deal_posted.ensures (repaid_update_of (offer_in m o) (is_repayer m.settings c.args.caller) c.args.amount) o a b (Some (offer_in m o).row.offer.invoice) m (simp (to_z-of_z c.ranges.amount, c.is_repayer-allowed.ensures, e) at c.update_repaid.ensures) e
