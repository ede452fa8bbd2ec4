use Rattle.std.proofs.Common.{to_z-of_z}
use Rattle.settings.specs.Settings.{is_repayer}
use Rattle.totals.specs.Totals.{repay_of}
use Rattle.std.proofs.lemmas.Result.{err_from_is_err_and}
use Rattle.near.specs.Steps.{totals_step}
use Rattle.near.proofs.Near.totals_repaid.Goals as goal

pub returns-in_err-totals : goal.returns-in_err-totals
returns-in_err-totals c = λ k m e. let p = err_from_is_err_and c.from_residual.result c.from_residual.ensures.1 in rw (p.1, p.2) (totals_step m k e (repay_of m.totals (is_repayer m.settings c.args.caller) c.args.amount c.args.fee) (simp (to_z-of_z c.ranges.amount, to_z-of_z c.ranges.fee, c.is_repayer-allowed.ensures, e) at c.in_err-totals.ensures))

pub returns : goal.returns
returns c = λ k m e. totals_step m k e (repay_of m.totals (is_repayer m.settings c.args.caller) c.args.amount c.args.fee) (simp (to_z-of_z c.ranges.amount, to_z-of_z c.ranges.fee, c.is_repayer-allowed.ensures, e) at c.in_ok-totals.ensures)
