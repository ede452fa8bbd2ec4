-- Document 01, module 6: `get_lender_active_total` sums Accepted and Financed
use Rattle.std.specs.Prelude.{ℕ, ◌<◌, ◌≡◌, true, ◌&&◌, ◌||◌, get_or, eqb}
use Rattle.terms.specs.Status.{status_accepted, status_financed}
use Rattle.refusal.specs.Choice.{pick}
use Rattle.money.specs.Range.{in_amount, magnitude_of}
use Rattle.table.specs.Tables.{Table, total}
use Rattle.offer.specs.Offer.{no_offer}
use Rattle.offer.specs.declared.Offer.{Offer}
use Rattle.lists.specs.declared.OfferRows.{OfferRows}

unfoldable pub active_in : ℕ → Offer → ℕ
active_in lender o = pick (eqb o.lender lender && (eqb o.status status_accepted || eqb o.status status_financed)) (magnitude_of o.terms.amount) 0

abbrev pub active_of : ℕ → Table Offer → ℕ
active_of lender t = total (active_in lender) t

-- every amount in use is one of an offer
abbrev pub InRange : OfferRows → Type 0
InRange t = (i : ℕ) → i < t.count → in_amount (get_or t.rows i no_offer).terms.amount ≡ true
