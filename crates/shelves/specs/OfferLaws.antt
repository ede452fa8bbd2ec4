-- What the test of the table of offers says of its rows, and that a table kept in the arrays is the table read from them.
use Rattle.std.specs.Prelude.{ℕ, ◌<◌, ◌≡◌, true, length, get_or}
use Rattle.std.proofs.Common.{sym, ap, ◌∙◌}
use Rattle.std.proofs.lemmas.List.{length-map}
use Rattle.table.specs.Tables.{Table, key, held}
use Rattle.table.specs.Padded.{padded, length-padded}
use Rattle.table.specs.Shelf.{table_of}
use Rattle.table.proofs.ShelfBack.{table_stored, shelf_stored}
use Rattle.table.specs.Sound.{All}
use Rattle.table.proofs.Sound.{all_map}
use Rattle.table.specs.Columns.{level, length_join, get_or_join}
use Rattle.table.specs.Join.{Level}
use Rattle.table.specs.Parts.{join_columns}
use Rattle.table.proofs.Keeping.{Keeping, shelf_fine}
use Rattle.table.proofs.TestLaws.{shelf_of, rows_of_lem, passes, everywhere}
use Rattle.negotiation.specs.Rounds.{round_slots, no_negotiation}
use Rattle.negotiation.specs.Whole.{Whole}
use Rattle.negotiation.specs.Laws.{none_whole}
use Rattle.offer.specs.Offer.{no_offer, no_schedule, no_deal, deal_sound, deal_zero}
use Rattle.offer.specs.Laws.{DealKept, deal_zero_lem, no_deal_zero}
use Rattle.offer.specs.declared.Deal.{Deal}
use Rattle.shelves.specs.declared.Offers.{Offers}
use Rattle.shelves.specs.Offers.{deal_of, rows_of, deals_of, stored_deals, DealShelf, deals_test, WholeDeals}
use Rattle.shelves.specs.Deals.{deal_parts_lem, offers_long, deals_kept}

-- the rows read from the columns that they were stored in
rows_stored : (t : Table Deal) → rows_of (stored_deals t) ≡ padded no_deal held 64 t
rows_stored t = join_columns deal_parts_lem (padded no_deal held 64 t)

level_stored : (t : Table Deal) → Level (stored_deals t).rows (stored_deals t).negotiations (stored_deals t).schedules
level_stored t = record { second = simp length-map; third = simp length-map }

pub deals_keeping : Keeping 64 deals_of stored_deals DealShelf
deals_keeping = record {
  fine = λ a s. shelf_fine s.shelf;
  kept = λ a s. sym (deals_kept s);
  good = λ {t} f. record { shelf = rw (rows_stored t) (shelf_stored no_deal 64 t f.fits f.rises); level = level_stored t };
  back = λ {t} f. ap (λ r. table_of (padded 0 key 64 t) r (length t)) (rows_stored t) ∙ table_stored no_deal 64 t f.fits;
}

module _ (e : ℕ) (a : Offers) (w : WholeDeals a) (t : deals_test e a ≡ true) where
  even : Level a.rows a.negotiations a.schedules
  even = level a.rows a.negotiations a.schedules w.rows_long w.negotiations_long w.schedules_long

  rows_long : length (rows_of a) ≡ 64
  rows_long = length_join deal_of a.rows a.negotiations a.schedules even ∙ w.rows_long

  whole_at : (i : ℕ) → i < 64 → Whole round_slots (get_or (rows_of a) i no_deal).negotiation
  whole_at i h = rw (get_or_join deal_of a.rows a.negotiations a.schedules even i no_offer no_negotiation no_schedule) (w.whole i h)

  pub deals_shelf : DealShelf a
  unfolding deals_test
  deals_shelf = record {
    shelf = shelf_of (deal_sound e) deal_zero no_deal 64 a.count a.ids (rows_of a) w.ids_long rows_long t (λ i h. deal_zero_lem _ (whole_at i h));
    level = even;
  }

  pub deals_sound : All (DealKept e) (deals_of a)
  unfolding deals_test
  deals_sound = rows_of_lem (deal_sound e) deal_zero no_deal 64 a.count a.ids (rows_of a) w.ids_long rows_long t (DealKept e) (λ i h k. record { test = k; whole = whole_at i h })

pub deals_pass : (e : ℕ) {a : Offers} → DealShelf a → All (DealKept e) (deals_of a) → deals_test e a ≡ true
unfolding deals_test
deals_pass e {a} s o = passes (deal_sound e) deal_zero no_deal no_deal_zero s.shelf (all_map (DealKept e) (λ d. deal_sound e d ≡ true) (deals_of a) (λ d k. k.test) o)

-- the arrays are as long as their types say, and every negotiation there has all its rounds
pub deals_whole : (e : ℕ) {a : Offers} → DealShelf a → All (DealKept e) (deals_of a) → WholeDeals a
deals_whole e {a} s o =
    let whole_row : Deal → Type 0 = λ d. Whole round_slots d.negotiation in
    let long = offers_long s in
    record {
      ids_long = ap length (sym s.shelf.ids_kept) ∙ length-padded 0 key 64 (deals_of a);
      rows_long = long;
      negotiations_long = s.level.second ∙ long;
      schedules_long = s.level.third ∙ long;
      whole = λ k h. rw (get_or_join deal_of a.rows a.negotiations a.schedules s.level k no_offer no_negotiation no_schedule) at
          (everywhere whole_row s.shelf (all_map (DealKept e) whole_row (deals_of a) (λ d q. q.whole) o) none_whole k);
    }
