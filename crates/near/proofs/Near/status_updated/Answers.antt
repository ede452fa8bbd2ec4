use Rattle.settings.specs.Settings.{is_repayer}
use Rattle.offer.specs.Rules.{status_update_of}
use Rattle.rules.specs.Model.{offer_in}
use Rattle.std.specs.Prelude.{Some}
use Rattle.near.proofs.Near.status_updated.Goals as goal

pub returns : goal.returns
returns c = λ o a b m e. c.deal_posted.ensures (status_update_of (offer_in m o) (is_repayer m.settings c.args.caller) c.args.code) o a b (Some (offer_in m o).row.offer.invoice) m (simp (c.is_repayer-allowed.ensures, e) at c.update_status.ensures) e
