-- The table of offers: a row is an offer with its negotiation and its schedule, kept in three arrays.
use Rattle.std.specs.Prelude.{ℕ, ◌<◌, ◌≡◌, Bool, ◌&&◌, List, length, get_or}
use Rattle.table.specs.Tables.{Table}
use Rattle.table.specs.Shelf.{table_of, shelve, Shelf}
use Rattle.table.specs.Join.{join, column, Level}
use Rattle.table.specs.Test.{ids_test, rows_test}
use Rattle.negotiation.specs.Rounds.{round_slots, no_negotiation}
use Rattle.negotiation.specs.Whole.{Whole}
use Rattle.negotiation.specs.declared.Negotiation.{Negotiation}
use Rattle.terms.specs.declared.Schedule.{Schedule}
use Rattle.offer.specs.Offer.{no_deal, deal_sound, deal_zero}
use Rattle.offer.specs.declared.Offer.{Offer}
use Rattle.offer.specs.declared.Deal.{Deal}
use Rattle.shelves.specs.declared.Offers.{Offers}

abbrev pub deal_of : Offer → Negotiation → Schedule → Deal
deal_of o n s = record { offer = o; negotiation = n; schedule = s }

abbrev pub rows_of : Offers → List Deal
rows_of a = join deal_of a.rows a.negotiations a.schedules

abbrev pub deals_of : Offers → Table Deal
deals_of a = table_of a.ids (rows_of a) a.count

abbrev pub as_offers : List ℕ → List Deal → ℕ → Offers
as_offers i r c = record { ids = i; rows = column (λ d. d.offer) r; negotiations = column (λ d. d.negotiation) r; schedules = column (λ d. d.schedule) r; count = c }

abbrev pub stored_deals : Table Deal → Offers
stored_deals t = shelve as_offers no_deal 64 t

pub record DealShelf (a : Offers) : Type 0 where
  pub shelf : Shelf no_deal 64 a.ids (rows_of a) a.count
  pub level : Level a.rows a.negotiations a.schedules

-- at most 64 rows, ids that ascend strictly, numbers in range, codes listed, rounds within the edition's limit, unused rows zero
unfoldable pub deals_test : ℕ → Offers → Bool
deals_test e a = ids_test 64 a.count a.ids && rows_test (deal_sound e) deal_zero no_deal 64 a.count (rows_of a)

-- what the types of the arrays say
pub record WholeDeals (a : Offers) : Type 0 where
  pub ids_long : length a.ids ≡ 64
  pub rows_long : length a.rows ≡ 64
  pub negotiations_long : length a.negotiations ≡ 64
  pub schedules_long : length a.schedules ≡ 64
  pub whole : (k : ℕ) → k < 64 → Whole round_slots (get_or a.negotiations k no_negotiation)
