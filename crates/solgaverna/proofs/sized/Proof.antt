use mathlib.Core.Path.{sym, ap, ◌∙◌}
use Rattle.refusal.specs.Choice.{pick}
use Rattle.solgaverna.specs.Answers.{coded}
use Rattle.text.specs.Answers.{answered}
use borrow.Author.Rules.{rules}
use Rattle.solgaverna.proofs.sized.Statement.{statement}
use Rattle.solgaverna.proofs.sized.Tie as tie

returns : tie.Need-returns-in-Done
unfolding pick
returns c = sym (ap (λ z. coded (answered z).0 (answered z).1) c.in-Done.is)

returns-2 : tie.Need-returns-in-Malformed
unfolding pick
returns-2 c = c.refused.ensures ∙ sym (ap (λ z. coded (answered z).0 (answered z).1) c.in-Malformed.is)

returns-3 : tie.Need-returns-in-Short
unfolding pick
returns-3 c = c.refused-in-Short.ensures ∙ sym (ap (λ z. coded (answered z).0 (answered z).1) c.in-Short.is)

pub sized_spec : {M : Type 1} → statement M
sized_spec =
    tie.close
    (tie.spec (λ c. search rules) (λ c. search rules) (λ c κs. search rules) (λ c. search rules) (λ c κs. search rules) returns returns-2 returns-3)
