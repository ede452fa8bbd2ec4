use mathlib.Core.Path.{ap, ◌∙◌}
use Rattle.solgaverna.specs.Answers.{line_of}
use Rattle.solgaverna.specs.AnswerLaws.{fault_line_lem}
use borrow.Author.Rules.{rules}
use Rattle.solgaverna.proofs.solgaverna_faulty_line.Statement.{statement}
use Rattle.solgaverna.proofs.solgaverna_faulty_line.Tie as tie

returns : tie.Need-returns
returns c = c.line.ensures ∙ ap line_of c.to_journal-r.ensures.0 ∙ fault_line_lem _ _

pub solgaverna_faulty_line_spec : {M : Type 1} → statement M
solgaverna_faulty_line_spec =
    tie.close (tie.spec (λ c. search rules) (λ c κs. search rules) (λ c κs. search rules) returns)
