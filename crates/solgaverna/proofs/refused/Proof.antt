use mathlib.Core.Path.{refl}
use borrow.Author.Tests.{eq-eqb, ne_eqb}
use Rattle.refusal.specs.ChoiceLaws.{on, off}
use Rattle.solgaverna.specs.Answers.{minus}
use Rattle.solgaverna.specs.AnswerLaws.{turned}
use borrow.Author.Rules.{rules}
use Rattle.solgaverna.proofs.refused.Statement.{statement}
use Rattle.solgaverna.proofs.refused.Tie as tie

returns : tie.Need-returns-then-n-eq0
unfolding minus
returns c = on _ (eq-eqb _ _ c.if-n-eq0.true) refl

returns-2 : tie.Need-returns
unfolding minus
returns-2 c = off _ (ne_eqb _ _ c.if-n-eq0.false) (turned _ c.if-n-eq0.false)

pub refused_spec : {M : Type 1} → statement M
refused_spec = tie.close (tie.spec returns (λ c. search rules) (λ c. search rules) returns-2)
