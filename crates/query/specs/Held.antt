-- What a sound book holds that the queries go by. Assumes nothing.
use Rattle.std.specs.Prelude.{ℕ, zero, suc, ◌-◌, ◌≡◌, refl, Bool, true, false, ◌&&◌, ◌||◌, List, [], ◌∷◌, map, length, get_or, leb, eqb, ltb}
use Rattle.std.proofs.Common.{arith, sym, ap, ◌∙◌}
use Rattle.refusal.specs.ChoiceLaws.{pick_on, pick_off}
use Rattle.money.specs.Range.{in_amount, in_total, magnitude_of}
use Rattle.money.specs.Facts.{both}
use Rattle.terms.specs.Terms.{terms_ok}
use Rattle.edition.specs.Edition.{keeps_terms}
use Rattle.installments.specs.Sums as Sums
use Rattle.installments.specs.SumLaws.{Promises}
use Rattle.terms.specs.Status.{status_repaid, status_defaulted}
use Rattle.terms.specs.Laws.{schedule_promises, elapsed_le}
use Rattle.terms.specs.Schedule.{seconds_of, schedule_ok, schedule_zero, installments_of}
use Rattle.terms.specs.Due.{elapsed_of, owed_at, due_of, due_arguments}
use Rattle.terms.specs.declared.Terms.{Terms}
use Rattle.table.specs.Shelf.{table_of}
use Rattle.table.specs.Columns.{get_or_join}
use Rattle.table.specs.Parts.{first_column}
use Rattle.table.specs.All.{all-at}
use Rattle.table.specs.Test.{ids_test, row_test, rows_test}
use Rattle.table.proofs.TestLaws.{used}
use Rattle.negotiation.specs.Rounds.{no_negotiation}
use Rattle.offer.specs.Offer.{no_offer, no_schedule, no_deal, deal_sound, deal_zero}
use Rattle.offer.specs.Laws.{DealKept, kept_ranges}
use Rattle.offer.specs.declared.Deal.{Deal}
use Rattle.settings.specs.Settings.{settings_sound}
use Rattle.totals.specs.Totals.{totals_sound}
use Rattle.shelves.specs.Accounts.{accounts_test}
use Rattle.shelves.specs.Invoices.{invoices_test}
use Rattle.shelves.specs.Offers.{deal_of, rows_of, deals_test}
use Rattle.shelves.specs.Deals.{deal_parts_lem}
use Rattle.shelves.specs.declared.Offers.{Offers}
use Rattle.lists.specs.Listing.{offers_of}
use Rattle.lists.specs.Active.{InRange}
use Rattle.book.specs.declared.Book.{Book}
use Rattle.book.specs.Stored.{model_of, book_test, Shelved}
use Rattle.query.specs.Numbers.{offers_only, due_in}
use Rattle.query.specs.Reads.{offers_in}

-- a part of each row of a table
table_part : {A B : Type 0} (f : A → B) (ids : List ℕ) (rows : List A) (n : ℕ) → table_of ids (map f rows) n ≡ map (λ e. (e.0, f e.1)) (table_of ids rows n)
unfolding table_of
table_part f [] rows n = refl
table_part f (i ∷ ids) [] n = refl
table_part f (i ∷ ids) (r ∷ rows) zero = refl
table_part f (i ∷ ids) (r ∷ rows) (suc n) = ap (λ z. (i, f r) ∷ z) (table_part f ids rows n)

-- an amount of valid terms
amount_in : (t : Terms) → terms_ok t ≡ true → in_amount t.amount ≡ true
unfolding terms_ok
amount_in t h = (both _ _ (both _ _ (both _ _ (both _ _ h).0).0).0).0

amount_of : (e : ℕ) (d : Deal) → deal_sound e d ≡ true → in_amount d.offer.terms.amount ≡ true
unfolding deal_sound
amount_of e d h = amount_in d.offer.terms (both _ _ (both _ _ (both _ _ (both _ _ h).0).0).0).0

deals_test_lem : (b : Book) → book_test b ≡ true → deals_test b.settings.edition b.offers ≡ true
unfolding book_test
deals_test_lem b e =
    let rows = accounts_test b.accounts && invoices_test b.invoices in
    let s = both ((rows && deals_test b.settings.edition b.offers) && totals_sound b.totals) (settings_sound b.settings) e in
    let t = both (rows && deals_test b.settings.edition b.offers) (totals_sound b.totals) s.0 in
    (both rows (deals_test b.settings.edition b.offers) t.0).1

rows_test_lem : (n : ℕ) (t : Offers) → deals_test n t ≡ true → rows_test (deal_sound n) deal_zero no_deal 64 t.count (rows_of t) ≡ true
unfolding deals_test
rows_test_lem n t e = (both (ids_test 64 t.count t.ids) (rows_test (deal_sound n) deal_zero no_deal 64 t.count (rows_of t)) e).1

module _ {b : Book} (k : Shelved b) where
  pub offers_held : offers_of (offers_only b.offers) ≡ offers_in (model_of b)
  offers_held =
      ap (λ l. table_of b.offers.ids l b.offers.count) (sym (first_column deal_parts_lem k.offers.level))
      ∙ table_part (λ (d : Deal). d.offer) b.offers.ids (rows_of b.offers) b.offers.count

  pub count_held : b.offers.count ≡ length (model_of b).offers
  count_held = sym k.offers.shelf.counted

  pub amounts_held : book_test b ≡ true → InRange (offers_only b.offers)
  amounts_held e i h =
      let n = b.settings.edition in
      let t = b.offers in
      let row = all-at (row_test (deal_sound n) deal_zero no_deal t.count (rows_of t)) 64 (rows_test_lem n t (deals_test_lem b e)) i (omega (arith, k.offers.shelf.few)) in
      let s = used t.count i (deal_sound n (get_or (rows_of t) i no_deal)) (deal_zero (get_or (rows_of t) i no_deal)) row h in
      let d = get_or_join deal_of t.rows t.negotiations t.schedules k.offers.level i no_offer no_negotiation no_schedule in
      ap (λ (x : Deal). in_amount x.offer.terms.amount) (sym d) ∙ amount_of n (get_or (rows_of t) i no_deal) s

-- on a sound row that has a schedule the due rule's arguments are in range, so the installment due is module 1's
or_else : (s t : Bool) → s || t ≡ true → s ≡ false → t ≡ true
or_else true t h e = cc
or_else false t h e = h

pub due_number : {e : ℕ} (d : Deal) (now : ℕ) → DealKept e d → schedule_zero d.schedule ≡ false
    → due_in e d now ≡ owed_at (keeps_terms e) d.schedule d.offer.status d.offer.repaid now
unfolding due_in due_of due_arguments
due_number {e} d now h z =
    let r = kept_ranges h in
    let s = or_else (schedule_zero d.schedule) (schedule_ok (keeps_terms e) d.schedule) r.schedule_in_lem z in
    let a : (schedule_ok (keeps_terms e) d.schedule && leb d.offer.status 5) && in_total d.offer.repaid ≡ true = rw (s, r.status_in, r.repaid_in) in
    pick_off _ _ z ∙ ap (λ (x : ℕ × (ℕ × ℕ)). x.1) (pick_on _ _ a)

-- which is, where the offer is neither Repaid nor Defaulted and its first installment has fallen due, what is due of its list
pub due_listed : {e : ℕ} (d : Deal) (now : ℕ) → DealKept e d → schedule_zero d.schedule ≡ false
    → eqb d.offer.status status_repaid ≡ false → eqb d.offer.status status_defaulted ≡ false → ltb now d.schedule.first ≡ false
    → due_in e d now ≡ Sums.due_of (installments_of (keeps_terms e) d.schedule) (elapsed_of (now - d.schedule.first) (seconds_of d.schedule.code) d.schedule.count) (magnitude_of d.offer.repaid)
unfolding owed_at
due_listed d now h z a b c = due_number d now h z ∙ (pick_off _ _ a ∙ (pick_off _ _ b ∙ pick_off _ _ c))

-- and what is promised of a due holds of that: of the schedule's installments, those elapsed, and the amount repaid
pub due_promised : {e : ℕ} (d : Deal) (now : ℕ) → DealKept e d → schedule_zero d.schedule ≡ false
    → Promises (installments_of (keeps_terms e) d.schedule) (elapsed_of (now - d.schedule.first) (seconds_of d.schedule.code) d.schedule.count) (magnitude_of d.offer.repaid)
due_promised {e} d now h z =
    schedule_promises (keeps_terms e) d.schedule (or_else (schedule_zero d.schedule) (schedule_ok (keeps_terms e) d.schedule) (kept_ranges h).schedule_in_lem z) (elapsed_of (now - d.schedule.first) (seconds_of d.schedule.code) d.schedule.count) (magnitude_of d.offer.repaid) (elapsed_le (now - d.schedule.first) (seconds_of d.schedule.code) d.schedule.count)
