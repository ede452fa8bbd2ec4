use Rattle.std.proofs.lemmas.Result.{err_from_is_err_and}
use Rattle.std.proofs.Common.{sym, ◌∙◌}
use Rattle.near.specs.Steps.{deal_step}
use Rattle.near.proofs.Near.deal_posted.Goals as goal

pub returns-in_err-row : goal.returns-in_err-row
returns-in_err-row c = λ u o a b i m q e. let p = err_from_is_err_and c.from_residual.result c.from_residual.ensures.1 in rw (p.1, p.2) (deal_step m o a b i e u (sym c.in_err-row.was ∙ q))

pub returns : goal.returns
returns c = λ u o a b i m q e. rw c.put.ensures (deal_step m o a b i e u (sym c.in_ok-row.was ∙ q))
