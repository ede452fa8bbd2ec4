use mathlib.Core.Path.{ap, ◌∙◌}
use Rattle.solgaverna.specs.Answers.{coded}
use borrow.Author.Rules.{rules}
use Rattle.solgaverna.proofs.solgaverna_journal.Statement.{statement}
use Rattle.solgaverna.proofs.solgaverna_journal.Tie as tie

returns : tie.Need-returns
returns c = (c.sized.ensures ∙ ap (λ z. coded z.0 z.1) c.to_journal-told.ensures.0, c.to_journal-told.ensures.1)

pub solgaverna_journal_spec : {M : Type 1} → statement M
solgaverna_journal_spec =
    tie.close (tie.spec (λ c κs. search rules) (λ c κs. search rules) (λ c. search rules) returns)
