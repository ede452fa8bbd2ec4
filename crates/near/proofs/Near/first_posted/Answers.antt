use Rattle.std.proofs.lemmas.Result.{err_from_is_err_and}
use Rattle.std.proofs.Common.{sym, ◌∙◌}
use Rattle.near.specs.Steps.{first_step}
use Rattle.near.proofs.Near.first_posted.Goals as goal

pub returns-in_err-row : goal.returns-in_err-row
returns-in_err-row c = λ u a b i o m q e. let p = err_from_is_err_and c.from_residual.result c.from_residual.ensures.1 in rw (p.1, p.2) (first_step m a b i o e u (sym c.in_err-row.was ∙ q))

pub returns : goal.returns
returns c = λ u a b i o m q e. rw c.put_first.ensures (first_step m a b i o e u (sym c.in_ok-row.was ∙ q))
