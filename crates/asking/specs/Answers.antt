-- What is answered to a question: a line with 0, or the number of a refusal, and the values; then a line for each offer of a list or each round of a negotiation.
use Rattle.std.specs.Prelude.{ℕ, List, [], ◌∷◌, ◌++◌, get_or, take, drop}
use Rattle.money.specs.Range.{bits_of}
use Rattle.sheet.specs.Decimal.{decimal_of, numbers_of, newline}
use Rattle.negotiation.specs.declared.Round.{Round}
use Rattle.negotiation.specs.declared.Negotiation.{Negotiation}
use Rattle.offer.specs.declared.Offer.{Offer}
use Rattle.table.specs.Tables.{Table}
use Rattle.lists.specs.declared.Wanted.{Wanted}
use Rattle.lists.specs.Listing.{Reply, ten_of, listing}
use Rattle.lists.specs.Taking.{spread}

-- numbers in a line, a space between them
unfoldable pub row_of : List ℕ → List ℕ
row_of [] = newline
row_of (n ∷ ns) = decimal_of n ++ numbers_of ns

-- an answer's number and its values
abbrev pub reply_line : Reply → List ℕ
reply_line r = row_of (r.0 ∷ r.1)

-- an offer's ten numbers
abbrev pub offer_line : ℕ × Offer → List ℕ
offer_line e = row_of (ten_of e)

unfoldable pub offer_lines : Wanted → Table Offer → List ℕ
offer_lines w t = spread offer_line (listing w t)

-- party, amount, rate, duration, time
abbrev pub round_line : Round → List ℕ
round_line r = row_of (r.party ∷ bits_of r.amount ∷ r.rate ∷ r.duration ∷ r.time ∷ [])

unfoldable pub round_lines : Negotiation → List ℕ
round_lines g = spread round_line (take g.len g.rounds)

-- the reply that stands in an answer's twelve words
unfoldable pub reply_in : List ℕ → Reply
reply_in words = (get_or words 0 0, take (get_or words 1 0) (drop 2 words))
