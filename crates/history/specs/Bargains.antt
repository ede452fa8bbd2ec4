-- The offers: what was put down last on each, after its row is put anew or let in.
use Rattle.std.specs.Prelude.{ℕ, ◌≡◌, refl, Bool, true, false, eqb, leb, length}
use Rattle.std.proofs.Math.Path.{sym, ap}
use Rattle.std.proofs.Common.{◌∙◌, eqb-true}
use Rattle.refusal.specs.Choice.{pick}
use Rattle.refusal.specs.ChoiceLaws.{either, pick_on, pick_off}
use Rattle.table.specs.Tables.{Found, absent, here, Table, find, insert}
use Rattle.terms.specs.declared.Terms.{Terms}
use Rattle.negotiation.specs.Rounds.{round_slots, round_of}
use Rattle.negotiation.specs.Whole.{Whole}
use Rattle.negotiation.specs.Laws.{added_whole, accepted_whole}
use Rattle.negotiation.specs.Latest.{none_asked, accepted_asked, amend_asked, counter_asked}
use Rattle.offer.specs.declared.Deal.{Deal}
use Rattle.offer.specs.Offer.{new_deal, settled_deal, amended_deal, countered_deal}
use Rattle.offer.specs.Seen.{seen_deal}
use Rattle.history.specs.History.{Deed, creates, amends, counters, accepts}
use Rattle.history.specs.Figures.{put, at_put, at_insert, at_kept}
use Rattle.history.specs.Ledger.{Bargain, said, said_on, bargain_of}
use Rattle.history.specs.Agrees.{Rounds, Bargained}

abbrev size : Found Deal → ℕ
size s = length (seen_deal s).row.negotiation.rounds

module _ {b : ℕ → Bargain} {t : Table Deal} (P : Bargained b t) (o : ℕ) where
  abbrev there : Deal
  there = (seen_deal (find t o)).row

  rounds_put : (new : Deal) → Whole round_slots new.negotiation → Rounds (put t o new)
  rounds_put new h j = record { long = at_kept size t o new (h.long ∙ sym (P.rounds o).long) j ∙ (P.rounds j).long }

  -- nothing that a ledger reads
  pub kept : (new : Deal) → bargain_of (here new) ≡ bargain_of (find t o) → Whole round_slots new.negotiation → Bargained b (put t o new)
  kept new h w = record { shown = λ j. at_kept bargain_of t o new h j ∙ P.shown j; rounds = rounds_put new w }

  pub accepted : Bargained (said_on o accepts b) t
  unfolding said
  accepted = record { shown = λ j. P.shown j ∙ sym (either (λ z. z ≡ b j) (eqb o j) _ _ (λ e. refl) (λ e. refl)); rounds = P.rounds }

  pub settled : (now : ℕ) → Bargained b (put t o (settled_deal now there))
  unfolding settled_deal
  settled now = kept (settled_deal now there)
      (ap (λ z. record { lender = there.offer.lender; invoice = there.offer.invoice; terms = there.offer.terms; counter = z }) (accepted_asked round_slots there.negotiation))
      (accepted_whole round_slots there.negotiation (P.rounds o))

  pub created : (a i : ℕ) (x : Terms) (e : ℕ) → find t o ≡ absent → Bargained (said_on o (creates a i x) b) (insert t o (new_deal a i x e))
  unfolding said
  created a i x e n =
      let d : Deal = new_deal a i x e in
      let k : Bargain = record { lender = a; invoice = i; terms = x; counter = absent } in
      let q : bargain_of (here d) ≡ k = ap (λ z. record { lender = a; invoice = i; terms = x; counter = z }) (none_asked round_slots) in
      record {
        shown = λ j. at_insert bargain_of t o d n j ∙ ap (λ z. pick (eqb o j) z (bargain_of (find t j))) q ∙ ap (λ z. pick (eqb o j) k z) (P.shown j);
        rounds = λ j. record { long = at_insert size t o d n j ∙ either (λ z. z ≡ round_slots) (eqb o j) _ _ (λ e. refl) (λ e. (P.rounds j).long) };
      }

  -- the row put anew, seen as the deed
  put_said : (d : Deed) (new : Deal) → find t o ≡ here there → bargain_of (here new) ≡ said d (bargain_of (find t o)) → Whole round_slots new.negotiation → Bargained (said_on o d b) (put t o new)
  put_said d new n h w = record { shown = λ j. at_put bargain_of t o there new n j ∙ go j (eqb o j) refl; rounds = rounds_put new w }
    where
      go : (j : ℕ) (g : Bool) → eqb o j ≡ g → pick (eqb o j) (bargain_of (here new)) (bargain_of (find t j)) ≡ pick (eqb o j) (said d (b j)) (b j)
      go j true e = pick_on _ _ e ∙ h ∙ ap (said d) (ap (λ k. bargain_of (find t k)) (eqb-true o j e) ∙ P.shown j) ∙ sym (pick_on _ _ e)
      go j false e = pick_off _ _ e ∙ P.shown j ∙ sym (pick_off _ _ e)

  module _ (now window : ℕ) (x : Terms) (n : find t o ≡ here there) (room : leb round_slots there.negotiation.len ≡ false) where
    pub amended : Bargained (said_on o (amends x) b) (put t o (amended_deal now window x there))
    unfolding said amended_deal
    amended = put_said (amends x) (amended_deal now window x there) n
        (ap (λ z. record { lender = there.offer.lender; invoice = there.offer.invoice; terms = x; counter = z }) (amend_asked round_slots there.negotiation (P.rounds o) room window now x))
        (added_whole round_slots there.negotiation (P.rounds o) room (round_of now x 0) window)

    pub countered : Bargained (said_on o (counters x) b) (put t o (countered_deal now window x there))
    unfolding said countered_deal
    countered = put_said (counters x) (countered_deal now window x there) n
        (ap (λ z. record { lender = there.offer.lender; invoice = there.offer.invoice; terms = there.offer.terms; counter = z }) (counter_asked round_slots there.negotiation (P.rounds o) room window now x))
        (added_whole round_slots there.negotiation (P.rounds o) room (round_of now x 1) window)
