-- All the rounds that a negotiation has room for are there, as its type says
use Rattle.std.specs.Prelude.{ℕ, ◌≡◌, length}
use Rattle.negotiation.specs.declared.Negotiation.{Negotiation}

pub record Whole (slots : ℕ) (n : Negotiation) : Type 0 where
  pub long : length n.rounds ≡ slots
