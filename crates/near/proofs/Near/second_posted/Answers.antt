use Rattle.std.proofs.lemmas.Result.{err_from_is_err_and}
use Rattle.std.proofs.Common.{sym, ◌∙◌}
use Rattle.near.specs.Steps.{second_step}
use Rattle.near.proofs.Near.second_posted.Goals as goal

pub returns-in_err-row : goal.returns-in_err-row
returns-in_err-row c = λ u b a i o m q e. let p = err_from_is_err_and c.from_residual.result c.from_residual.ensures.1 in rw (p.1, p.2) (second_step m b a i o e u (sym c.in_err-row.was ∙ q))

pub returns : goal.returns
returns c = λ u b a i o m q e. rw c.put_second.ensures (second_step m b a i o e u (sym c.in_ok-row.was ∙ q))
