use Rattle.offer.specs.Rules.{reject_of}
use Rattle.rules.specs.Model.{offer_in, paper_of}
use Rattle.std.specs.Prelude.{Some}
use Rattle.near.proofs.Near.rejected.Goals as goal

pub returns : goal.returns
returns c = λ o a b m e. c.deal_posted.ensures (reject_of (offer_in m o) c.args.caller (paper_of m o)) o a b (Some (offer_in m o).row.offer.invoice) m (simp e at c.reject.ensures) e
