use mathlib.Core.Path.{ap, ◌∙◌}
use Rattle.solgaverna.specs.Answers.{coded}
use borrow.Author.Rules.{rules}
use Rattle.solgaverna.proofs.solgaverna_listing.Statement.{statement}
use Rattle.solgaverna.proofs.solgaverna_listing.Tie as tie

returns : tie.Need-returns
returns c = (c.listed.ensures ∙ ap (λ z. coded z.0 z.1) c.listing-r.ensures.0, c.listing-r.ensures.1)

pub solgaverna_listing_spec : {M : Type 1} → statement M
solgaverna_listing_spec = tie.close (tie.spec (λ c κs. search rules) (λ c κs. search rules) (λ c. search rules) returns)
