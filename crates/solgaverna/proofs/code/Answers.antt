use Rattle.std.proofs.Common.{◌∙◌, sym, ap}
use Rattle.solgaverna.specs.Answers.{minus, code}
use Rattle.refusal.specs.Choice.{pick}
use Rattle.solgaverna.specs.AnswerLaws.{code_err}
use Rattle.solgaverna.proofs.code.Goals as goal

pub returns-in-Ok : goal.returns-in-Ok
unfolding pick
returns-in-Ok c = sym (ap code c.in-Ok.is)

pub returns-in-Err : goal.returns-in-Err
returns-in-Err c = c.refused.ensures ∙ ap minus c.number.ensures ∙ sym (ap code c.in-Err.is ∙ code_err c.in-Err.e)
