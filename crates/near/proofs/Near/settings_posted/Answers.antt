use Rattle.std.proofs.lemmas.Result.{err_from_is_err_and}
use Rattle.std.proofs.Common.{sym, ◌∙◌}
use Rattle.near.specs.Steps.{settings_step}
use Rattle.near.proofs.Near.settings_posted.Goals as goal

pub returns-in_err-settings : goal.returns-in_err-settings
returns-in_err-settings c = λ u k m q e. let p = err_from_is_err_and c.from_residual.result c.from_residual.ensures.1 in rw (p.1, p.2) (settings_step m k e u (sym c.in_err-settings.was ∙ q))

pub returns : goal.returns
returns c = λ u k m q e. settings_step m k e u (sym c.in_ok-settings.was ∙ q)
