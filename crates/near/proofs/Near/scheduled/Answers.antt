use Rattle.offer.specs.Rules.{schedule_of}
use Rattle.rules.specs.Model.{offer_in, paper_of}
use Rattle.std.specs.Prelude.{Some}
use Rattle.near.proofs.Near.scheduled.Goals as goal

pub returns : goal.returns
returns c = λ o a b m e. c.deal_posted.ensures (schedule_of m.settings.edition (offer_in m o) c.args.now c.args.caller c.args.count c.args.code c.args.start c.args.kind (paper_of m o)) o a b (Some (offer_in m o).row.offer.invoice) m (simp e at c.schedule.ensures) e
