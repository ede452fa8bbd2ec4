use mathlib.Core.Path.{sym, ap}
use Rattle.refusal.specs.Choice.{pick}
use Rattle.text.specs.Answers.{answered}
use Rattle.solgaverna.specs.Answers.{line_of}
use borrow.Author.Rules.{rules}
use Rattle.solgaverna.proofs.line.Statement.{statement}
use Rattle.solgaverna.proofs.line.Tie as tie

returns : tie.Need-returns-in-Done
unfolding pick
returns c = sym (ap (λ z. line_of (answered z)) c.in-Done.is)

returns-2 : tie.Need-returns-in-Malformed
unfolding pick
returns-2 c = sym (ap (λ z. line_of (answered z)) c.in-Malformed.is)

returns-3 : tie.Need-returns-in-Short
unfolding pick
returns-3 c = sym (ap (λ z. line_of (answered z)) c.in-Short.is)

pub line_spec : {M : Type 1} → statement M
line_spec =
    tie.close
    (tie.spec (λ c. search rules) (λ c. search rules) (λ c. search rules) returns returns-2 returns-3)
