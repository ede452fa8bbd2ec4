use Rattle.invoice.specs.Invoice.{cancel_of}
use Rattle.rules.specs.Model.{invoice_in}
use Rattle.std.proofs.lemmas.Result.{err_from_is_err_and}
use Rattle.near.specs.Steps.{paper_step}
use Rattle.near.proofs.Near.cancelled.Goals as goal

pub returns-in_err-row : goal.returns-in_err-row
returns-in_err-row c = λ i a b o m e. let p = err_from_is_err_and c.from_residual.result c.from_residual.ensures.1 in rw (p.1, p.2) (paper_step m i a b o e (cancel_of (invoice_in m i) c.args.caller) (simp e at c.in_err-row.ensures))

pub returns : goal.returns
returns c = λ i a b o m e. rw c.put.ensures (paper_step m i a b o e (cancel_of (invoice_in m i) c.args.caller) (simp e at c.in_ok-row.ensures))
