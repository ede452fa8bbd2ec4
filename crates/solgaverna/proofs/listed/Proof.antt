use mathlib.Core.Path.{sym, ap, ◌∙◌}
use Rattle.refusal.specs.Choice.{pick}
use Rattle.solgaverna.specs.Answers.{coded}
use Rattle.replay.specs.Text.{listing_says}
use borrow.Author.Rules.{rules}
use Rattle.solgaverna.proofs.listed.Statement.{statement}
use Rattle.solgaverna.proofs.listed.Tie as tie

returns : tie.Need-returns-in-Done
unfolding pick
returns c = sym (ap (λ z. coded (listing_says z).0 (listing_says z).1) c.in-Done.is)

returns-2 : tie.Need-returns-in-Short
unfolding pick
returns-2 c = c.refused.ensures ∙ sym (ap (λ z. coded (listing_says z).0 (listing_says z).1) c.in-Short.is)

returns-3 : tie.Need-returns-in-Unsound
unfolding pick
returns-3 c = c.refused-in-Unsound.ensures ∙ sym (ap (λ z. coded (listing_says z).0 (listing_says z).1) c.in-Unsound.is)

pub listed_spec : {M : Type 1} → statement M
listed_spec =
    tie.close
    (tie.spec (λ c. search rules) (λ c. search rules) (λ c κs. search rules) (λ c. search rules) (λ c κs. search rules) returns returns-2 returns-3)
