-- The loop that lets a row into the table of offers: each column moves up by one, from the count down to the row's place
use Rattle.std.specs.Prelude.{ℕ, suc, ◌+◌, ◌≤◌, ◌<◌, ◌≡◌, refl, List, length, get_or, set, take}
use Rattle.std.proofs.Common.{arith, ap, ◌∙◌}
use Rattle.std.proofs.Math.ListN.{get_or-map}
use Rattle.table.specs.Tables.{held, insert}
use Rattle.table.specs.Find.{find_in}
use Rattle.std.specs.Prelude.{Err}
use Rattle.table.specs.Padded.{padded, pad_rest}
use Rattle.table.specs.Shift.{insert_at, Lifts, lifts, lifts_on}
use Rattle.table.proofs.Raising.{Between, ids_raised}
use Rattle.table.specs.Join.{column}
use Rattle.negotiation.specs.declared.Negotiation.{Negotiation}
use Rattle.terms.specs.declared.Schedule.{Schedule}
use Rattle.offer.specs.Offer.{no_deal}
use Rattle.offer.specs.declared.Offer.{Offer}
use Rattle.offer.specs.declared.Deal.{Deal}
use Rattle.shelves.specs.declared.Offers.{Offers}
use Rattle.shelves.specs.Offers.{deals_of, stored_deals, DealShelf}
use Rattle.shelves.specs.Deals.{offers_of, offers_long, deals_kept, deal_in}

-- u is what was there before the loop, w what is there at i; the row's place is k
pub record Moves (u : Offers) (k : ℕ) (w : Offers) (i : ℕ) : Type 0 where
  pub ids : Lifts 64 u.ids w.ids i
  pub rows : Lifts 64 u.rows w.rows i
  pub negotiations : Lifts 64 u.negotiations w.negotiations i
  pub schedules : Lifts 64 u.schedules w.schedules i
  pub place : Between k u.count i

module _ {u : Offers} (s : DealShelf u) where
  -- past the count all is zero
  free_part : {X : Type 0} (f : Deal → X) (part : Offers → List X) → part (stored_deals (deals_of u)) ≡ column f (padded no_deal held 64 (deals_of u)) → length (part u) ≡ 64 → Lifts 64 (part u) (part u) u.count
  free_part f part e l =
      let parts = padded no_deal held 64 (deals_of u) in
      lifts (f no_deal) (part u) u.count l
      (λ j h. ap (λ z. get_or (part z) j (f no_deal)) (deals_kept s) ∙ ap (λ z. get_or z j (f no_deal)) e ∙ get_or-map f parts j no_deal ∙ ap f (pad_rest no_deal held 64 (deals_of u) j (omega (arith, s.shelf.counted))))

  pub moves : {k : ℕ} → k ≤ u.count → Moves u k u u.count
  moves h =
      let long = offers_long s in
      record {
        ids = ids_raised s.shelf;
        rows = free_part (λ d. d.offer) (λ z. z.rows) refl long;
        negotiations = free_part (λ d. d.negotiation) (λ z. z.negotiations) refl (s.level.second ∙ long);
        schedules = free_part (λ d. d.schedule) (λ z. z.schedules) refl (s.level.third ∙ long);
        place = record { above = h; within = omega arith };
      }

module _ {u w : Offers} {k i : ℕ} (m : Moves u k w i) where
  pub moves_on : {j : ℕ} (a : ℕ) (b : Offer) (e : Negotiation) (f : Schedule) → i ≡ suc j → k < i
      → Moves u k (offers_of (set w.ids i (get_or w.ids j a)) w.count (set w.rows i (get_or w.rows j b)) (set w.negotiations i (get_or w.negotiations j e)) (set w.schedules i (get_or w.schedules j f))) j
  moves_on a b e f q h =
      record {
        ids = lifts_on a m.ids q;
        rows = lifts_on b m.rows q;
        negotiations = lifts_on e m.negotiations q;
        schedules = lifts_on f m.schedules q;
        place = record { above = omega arith; within = omega (arith, m.place.within) };
      }

  pub deal_let_in : DealShelf u → (x : ℕ) (d : Deal) → u.count < 64 → find_in (take u.count u.ids) x ≡ Err k → i ≤ k
      → offers_of (set w.ids i x) (u.count + 1) (set w.rows i d.offer) (set w.negotiations i d.negotiation) (set w.schedules i d.schedule) ≡ stored_deals (insert (deals_of u) x d)
  deal_let_in s x d h e l =
      let c = u.count + 1 in
      let o = d.offer in
      let g = d.negotiation in
      let p = d.schedule in
      ap (λ z. offers_of z c (set w.rows i o) (set w.negotiations i g) (set w.schedules i p)) (m.ids.put x)
      ∙ ap (λ z. offers_of (insert_at i x u.ids) c z (set w.negotiations i g) (set w.schedules i p)) (m.rows.put o)
      ∙ ap (λ z. offers_of (insert_at i x u.ids) c (insert_at i o u.rows) z (set w.schedules i p)) (m.negotiations.put g)
      ∙ ap (λ z. offers_of (insert_at i x u.ids) c (insert_at i o u.rows) (insert_at i g u.negotiations) z) (m.schedules.put p)
      ∙ ap (λ z. offers_of (insert_at z x u.ids) c (insert_at z o u.rows) (insert_at z g u.negotiations) (insert_at z p u.schedules)) (omega (arith, m.place.above))
      ∙ deal_in s x k d h e
