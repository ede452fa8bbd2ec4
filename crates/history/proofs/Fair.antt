-- Offered and Financed are sums over ids. They follow the ledger where each offer is created once, before it is amended, and each account opened once, before its offer settles.
use Prim.Native.Nat.{ℕ}
use Rattle.std.specs.Prelude.{◌≡◌, Bool, pos, ◌+ℤ◌, ◌-ℤ◌}
use Rattle.std.proofs.Math.Path.{refl, sym, ap}
use Rattle.std.proofs.Common.{◌∙◌, eq-eqb, eqb-true}
use Rattle.std.proofs.Math.Bool.{true, false}
use mathlib.Core.List.{List, ◌∷◌}
use Rattle.std.proofs.Math.Dec.{eqb}
use Rattle.std.proofs.Math.IntN.{ℤ, +ℤ_assoc, +ℤ_comm, +ℤ_idr, -ℤ-+ℤ_cancel}
use Rattle.refusal.specs.Choice.{pick}
use Rattle.refusal.specs.ChoiceLaws.{pick_on, pick_off}
use Rattle.table.specs.Tables.{absent, here}
use Rattle.table.specs.Sums.{count}
use Rattle.history.specs.History.{Deed, creates, amends, counters, accepts, Entry, opens, deposits, pays, registers, deals, nothing, terms_said, counter_of, lender_said, settles, Said, grow, deeds_on, settlement_of, dealt, created_by, add, sum, share, offered, accepted, financed}
use Rattle.history.specs.Figures.{share_on, share_off, sum_none, sum_once}
use Rattle.history.specs.Shares.{share_moves, sum_same}
use Rattle.history.specs.Ledger.{Bargain, Ledger, raised, noted, sold, post}
use Rattle.history.proofs.Reading.{bargain_in, Reads, at_offer, either_way}

abbrev pub Known : Said → ℕ → Deed → Type 0
Known r o (creates a i t) = count o r.offers ≡ 0
Known r o (amends t) = count o r.offers ≡ 1
Known r o (counters t) = Unit {0}
Known r o accepts = Unit {0}

pub record FairDeed (r : Said) (o : ℕ) (d : Deed) : Type 0 where
  pub known : Known r o d
  pub banked : let l = deeds_on o r.deeds in settles (terms_said l) (counter_of l) d ≡ true → count (lender_said (d ∷ l)) r.accounts ≡ 1

abbrev pub Fair : Said → Entry → Type 0
Fair r (opens a) = accepted r a ≡ pos 0
Fair r (deposits a x) = Unit {0}
Fair r (pays a x) = Unit {0}
Fair r (registers a i) = Unit {0}
Fair r (deals o d) = FairDeed r o d
Fair r nothing = Unit {0}

-- b has the figures that were there before
pub record Sums (b l : Ledger) (r : Said) : Type 0 where
  pub offereds : (a : ℕ) → l.purses.offereds a ≡ b.purses.offereds a +ℤ offered r a
  pub financed : l.financed ≡ b.financed +ℤ financed r

-- a figure of what was done on each offer, where one thing more is done on o
module _ (w : List Deed → ℤ) (o : ℕ) (d : Deed) (all : List (ℕ × Deed)) where
  deed_moves : (x : ℤ) → w (d ∷ deeds_on o all) ≡ w (deeds_on o all) +ℤ x → (j : ℕ) → w (deeds_on j ((o, d) ∷ all)) ≡ w (deeds_on j all) +ℤ share o j x
  unfolding deeds_on
  deed_moves x h j = go (eqb o j) refl
    where
      go : (g : Bool) → eqb o j ≡ g → w (pick (eqb o j) (d ∷ deeds_on j all) (deeds_on j all)) ≡ w (deeds_on j all) +ℤ share o j x
      go true e = ap w (pick_on _ _ e) ∙ ap (λ k. w (d ∷ deeds_on k all)) (sym (eqb-true o j e)) ∙ h ∙ ap (λ k. w (deeds_on k all) +ℤ x) (eqb-true o j e)
          ∙ ap (λ z. w (deeds_on j all) +ℤ z) (sym (share_on o j x e))
      go false e = ap w (pick_off _ _ e) ∙ sym (ap (λ z. w (deeds_on j all) +ℤ z) (share_off o j x e) ∙ +ℤ_idr (w (deeds_on j all)))

  deed_stays : ((l : List Deed) → w (d ∷ l) ≡ w l) → (j : ℕ) → w (deeds_on j ((o, d) ∷ all)) ≡ w (deeds_on j all)
  unfolding deeds_on pick
  deed_stays h j = go (eqb o j)
    where
      go : (g : Bool) → w (pick g (d ∷ deeds_on j all) (deeds_on j all)) ≡ w (deeds_on j all)
      go true = h (deeds_on j all)
      go false = refl

  -- on o itself
  deed_there : w (deeds_on o ((o, d) ∷ all)) ≡ w (d ∷ deeds_on o all)
  unfolding deeds_on
  deed_there = ap w (pick_on _ _ (eq-eqb o o refl))

-- what an offer counts for
abbrev present : ℕ → List Deed → ℤ
present a l = share (lender_said l) a (terms_said l).amount

module _ {b l : Ledger} {r : Said} (R : Reads b l r) (S : Sums b l r) where
  raised_is : (o : ℕ) (d : Deed) → Known r o d → (a : ℕ)
      → raised d (l.bargains o) l.purses.offereds a ≡ b.purses.offereds a +ℤ sum (λ j. present a (deeds_on j ((o, d) ∷ r.deeds))) (grow (created_by o d) r.offers)
  unfolding raised created_by grow offered sum lender_said terms_said
  raised_is o (creates c i t) k a =
      let d : Deed = creates c i t in
      let before : List Deed = deeds_on o r.deeds in
      let f : ℕ → ℤ = λ j. present a (deeds_on j r.deeds) in
      let g : ℕ → ℤ = λ j. present a (deeds_on j ((o, d) ∷ r.deeds)) in
      let x : ℤ = present a (d ∷ before) -ℤ present a before in
      let e : present a (d ∷ before) ≡ present a before +ℤ x = sym (+ℤ_comm (present a before) x ∙ -ℤ-+ℤ_cancel (present a (d ∷ before)) (present a before)) in
      ap (λ z. z +ℤ share c a t.amount) (S.offereds a ∙ ap (λ z. b.purses.offereds a +ℤ z) (sym (sum_none f g o x (deed_moves (present a) o d r.deeds x e) r.offers k)))
      ∙ +ℤ_assoc (b.purses.offereds a) (sum g r.offers) (share c a t.amount)
      ∙ ap (λ z. b.purses.offereds a +ℤ (sum g r.offers +ℤ z)) (sym (deed_there (present a) o d r.deeds))
  raised_is o (amends t) k a =
      let before : List Deed = deeds_on o r.deeds in
      let f : ℕ → ℤ = λ j. present a (deeds_on j r.deeds) in
      let g : ℕ → ℤ = λ j. present a (deeds_on j ((o, amends t) ∷ r.deeds)) in
      let x : ℤ = share (lender_said before) a (t.amount -ℤ (terms_said before).amount) in
      ap (λ z. z +ℤ share (l.bargains o).lender a (t.amount -ℤ (l.bargains o).terms.amount)) (S.offereds a)
      ∙ ap (λ (z : Bargain). b.purses.offereds a +ℤ offered r a +ℤ share z.lender a (t.amount -ℤ z.terms.amount)) (R.bargains o)
      ∙ +ℤ_assoc (b.purses.offereds a) (offered r a) x
      ∙ ap (λ z. b.purses.offereds a +ℤ z) (sym (sum_once f g o x (deed_moves (present a) o (amends t) r.deeds x (share_moves (lender_said before) a (terms_said before).amount t.amount)) r.offers k))
  raised_is o (counters t) k a =
      S.offereds a
      ∙ ap (λ z. b.purses.offereds a +ℤ z) (sym (sum_same (λ j. present a (deeds_on j r.deeds)) (λ j. present a (deeds_on j ((o, counters t) ∷ r.deeds))) (deed_stays (present a) o (counters t) r.deeds (λ z. refl)) r.offers))
  raised_is o accepts k a =
      S.offereds a
      ∙ ap (λ z. b.purses.offereds a +ℤ z) (sym (sum_same (λ j. present a (deeds_on j r.deeds)) (λ j. present a (deeds_on j ((o, accepts) ∷ r.deeds))) (deed_stays (present a) o accepts r.deeds (λ z. refl)) r.offers))

  settled : (o : ℕ) (d : Deed) → FairDeed r o d → let l₁ = deeds_on o r.deeds in settles (terms_said l₁) (counter_of l₁) d ≡ true → Sums b (sold o (noted o d l)) (dealt o d (here (settlement_of r (d ∷ l₁))) r)
  unfolding offered accepted financed sum grow
  settled o d F e =
      let k : Bargain = bargain_in (d ∷ deeds_on o r.deeds) in
      record {
        offereds = raised_is o d F.known;
        financed = ap (λ (z : Bargain). l.financed +ℤ z.terms.amount) (at_offer R o d)
            ∙ ap (λ z. z +ℤ k.terms.amount) S.financed
            ∙ +ℤ_assoc b.financed (financed r) k.terms.amount
            ∙ ap (λ z. b.financed +ℤ z) (sym (sum_once (accepted r) (λ a. accepted r a +ℤ share k.lender a k.terms.amount) k.lender k.terms.amount (λ j. refl) r.accounts (F.banked e)));
      }

  unsettled : (o : ℕ) (d : Deed) → FairDeed r o d → Sums b (noted o d l) (dealt o d absent r)
  unfolding offered accepted financed grow
  unsettled o d F = record { offereds = raised_is o d F.known; financed = S.financed }

  pub sums_post : (e : Entry) → Fair r e → Sums b (post e l) (add e r)
  unfolding post add offered accepted financed sum
  sums_post (opens a) f = record { offereds = S.offereds; financed = S.financed ∙ ap (λ z. b.financed +ℤ z) (sym (ap (λ z. financed r +ℤ z) f ∙ +ℤ_idr (financed r))) }
  sums_post (deposits a x) f = record { offereds = S.offereds; financed = S.financed }
  sums_post (pays a x) f = record { offereds = S.offereds; financed = S.financed }
  sums_post (registers a i) f = record { offereds = S.offereds; financed = S.financed }
  sums_post (deals o d) f = either_way R o d (λ k s. Sums b k (dealt o d s r)) (settled o d f) (unsettled o d f)
  sums_post nothing f = S
