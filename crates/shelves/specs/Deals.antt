-- A row of the table of offers, looked up, put anew and let in: what becomes of the three arrays that hold its parts.
use Rattle.std.specs.Prelude.{ℕ, ◌+◌, ◌<◌, ◌≡◌, refl, List, length, get_or, set, take}
use Rattle.std.proofs.Common.{arith, sym, ap, ◌∙◌}
use Rattle.std.specs.Prelude.{Ok, Err}
use Rattle.table.specs.Find.{find_in}
use Rattle.table.specs.Shift.{insert_at}
use Rattle.table.specs.Tables.{here, held, find, adjust, insert}
use Rattle.table.specs.Padded.{length-padded}
use Rattle.table.proofs.ShelfLaws.{at_below, at_found, kept, put_kept, absent_kept, in_kept}
use Rattle.table.specs.Columns.{length_join, join_at}
use Rattle.table.specs.Parts.{Parts, apart_join, apart_set, apart_insert}
use Rattle.negotiation.specs.declared.Negotiation.{Negotiation}
use Rattle.terms.specs.declared.Schedule.{Schedule}
use Rattle.offer.specs.Offer.{no_deal}
use Rattle.offer.specs.declared.Offer.{Offer}
use Rattle.offer.specs.declared.Deal.{Deal}
use Rattle.shelves.specs.declared.Offers.{Offers}
use Rattle.shelves.specs.Offers.{deal_of, deals_of, as_offers, stored_deals, DealShelf}

pub deal_parts_lem : Parts deal_of (λ d. d.offer) (λ d. d.negotiation) (λ d. d.schedule)
deal_parts_lem = record { first = λ o n s. refl; second = λ o n s. refl; third = λ o n s. refl; whole = λ d. refl }

abbrev pub offers_of : List ℕ → ℕ → List Offer → List Negotiation → List Schedule → Offers
offers_of i c o n s = record { ids = i; rows = o; negotiations = n; schedules = s; count = c }

module _ {a : Offers} (s : DealShelf a) where
  pub offers_long : length a.rows ≡ 64
  offers_long = sym (length_join deal_of a.rows a.negotiations a.schedules s.level) ∙ ap length (sym s.shelf.rows-kept) ∙ length-padded no_deal held 64 (deals_of a)

  pub deals_kept : a ≡ stored_deals (deals_of a)
  deals_kept = apart_join deal_parts_lem s.level (offers_of a.ids a.count) ∙ kept as_offers s.shelf

  module _ (i k : ℕ) where
    pub deal_found : find_in (take a.count a.ids) i ≡ Ok k → (o : Offer) (n : Negotiation) (p : Schedule)
        → find (deals_of a) i ≡ here (deal_of (get_or a.rows k o) (get_or a.negotiations k n) (get_or a.schedules k p))
    deal_found e o n p = at_found s.shelf i k e ∙ ap here (join_at deal_of a.rows a.negotiations a.schedules s.level k (omega (arith, offers_long, at_below s.shelf i k e)) no_deal o n p)

    pub deal_put : (d : Deal) → find_in (take a.count a.ids) i ≡ Ok k
        → offers_of a.ids a.count (set a.rows k d.offer) (set a.negotiations k d.negotiation) (set a.schedules k d.schedule) ≡ stored_deals (adjust (deals_of a) i (λ old. d))
    deal_put d e = apart_set deal_parts_lem s.level (offers_of a.ids a.count) k d ∙ put_kept as_offers s.shelf i k d e

    pub deal_absent : (d : Deal) → find_in (take a.count a.ids) i ≡ Err k → a ≡ stored_deals (adjust (deals_of a) i (λ old. d))
    deal_absent d e = apart_join deal_parts_lem s.level (offers_of a.ids a.count) ∙ absent_kept as_offers s.shelf i k d e

    pub deal_in : (d : Deal) → a.count < 64 → find_in (take a.count a.ids) i ≡ Err k
        → offers_of (insert_at k i a.ids) (a.count + 1) (insert_at k d.offer a.rows) (insert_at k d.negotiation a.negotiations) (insert_at k d.schedule a.schedules) ≡ stored_deals (insert (deals_of a) i d)
    deal_in d h e = apart_insert deal_parts_lem s.level (offers_of (insert_at k i a.ids) (a.count + 1)) k d ∙ in_kept as_offers s.shelf i k d h e
