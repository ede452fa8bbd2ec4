-- The ledger of a history is what document 01's sums read off the history, added to what was there before.
use Prim.Native.Nat.{ℕ}
use Rattle.std.specs.Prelude.{◌≡◌, Bool, cond, List, ◌∷◌, eqb, ◌+ℤ◌}
use Rattle.std.proofs.Math.Path.{refl, ap, subst}
use Rattle.std.proofs.Common.{sym, ◌∙◌, eq-eqb}
use Rattle.std.proofs.Math.Bool.{true, false}
use Rattle.std.proofs.Math.IntN.{ℤ, neg_ℤ, +ℤ_assoc, neg_ℤ-+ℤ}
use Rattle.refusal.specs.Choice.{pick}
use Rattle.refusal.specs.ChoiceLaws.{pick_on, pick_off}
use Rattle.table.specs.Tables.{Found, absent, here, find, row}
use Rattle.history.specs.History.{Deed, creates, amends, counters, accepts, Entry, opens, deposits, pays, registers, deals, nothing, terms_said, counter_of, lender_said, invoice_of, settles, Settlement, Said, grow, deeds_on, settlement_of, settled_by, dealt, add, sum, share, accepted, received, amounts_of, amounts, balance, together}
use Rattle.history.specs.Figures.{swap}
use Rattle.history.specs.Shares.{after_three, first_grows, second_grows, last_two_grow, share_neg}
use Rattle.history.specs.Ledger.{Bargain, said, Ledger, noted, sold, post}

abbrev pub bargain_in : List Deed → Bargain
bargain_in l = record { lender = lender_said l; invoice = invoice_of l; terms = terms_said l; counter = counter_of l }

-- b has the figures that were there before
pub record Reads (b l : Ledger) (r : Said) : Type 0 where
  pub bargains : (o : ℕ) → l.bargains o ≡ bargain_in (deeds_on o r.deeds)
  pub originators : (i : ℕ) → l.papers.originators i ≡ row 0 (find r.originators i)
  pub balances : (a : ℕ) → l.purses.balances a ≡ b.purses.balances a +ℤ balance r a
  pub accepteds : (a : ℕ) → l.purses.accepteds a ≡ b.purses.accepteds a +ℤ accepted r a
  pub together : l.purses.together ≡ b.purses.together +ℤ together r

said_deed : (d : Deed) (l : List Deed) → said d (bargain_in l) ≡ bargain_in (d ∷ l)
unfolding said lender_said invoice_of terms_said counter_of
said_deed (creates a i t) l = refl
said_deed (amends t) l = refl
said_deed (counters t) l = refl
said_deed accepts l = refl

module _ {b l : Ledger} {r : Said} (R : Reads b l r) where
  reads_bargain : (o : ℕ) (d : Deed) (j : ℕ) → pick (eqb o j) (said d (l.bargains j)) (l.bargains j) ≡ bargain_in (deeds_on j ((o, d) ∷ r.deeds))
  unfolding deeds_on
  reads_bargain o d j = go (eqb o j)
    where
      go : (g : Bool) → pick g (said d (l.bargains j)) (l.bargains j) ≡ bargain_in (pick g (d ∷ deeds_on j r.deeds) (deeds_on j r.deeds))
      go true = pick_on _ _ refl ∙ ap (said d) (R.bargains j) ∙ said_deed d (deeds_on j r.deeds) ∙ ap bargain_in (sym (pick_on _ _ refl))
      go false = pick_off _ _ refl ∙ R.bargains j ∙ ap bargain_in (sym (pick_off _ _ refl))

  -- a deed that settles nothing, and one that settles as s
  module _ (o : ℕ) (d : Deed) where
    abbrev before : List Deed
    before = deeds_on o r.deeds

    unsettled : Reads b (noted o d l) (dealt o d absent r)
    unfolding balance accepted received together grow
    unsettled = record { bargains = reads_bargain o d; originators = R.originators; balances = R.balances; accepteds = R.accepteds; together = R.together }

    pub at_offer : (noted o d l).bargains o ≡ bargain_in (d ∷ before)
    unfolding deeds_on
    at_offer = reads_bargain o d o ∙ ap bargain_in (pick_on _ _ (eq-eqb o o refl))

    settled : Reads b (sold o (noted o d l)) (dealt o d (here (settlement_of r (d ∷ before))) r)
    unfolding balance accepted received together grow sum
    settled =
        let k : Bargain = bargain_in (d ∷ before) in
        let p : ℕ = row 0 (find r.originators k.invoice) in
        let x : ℤ = k.terms.amount in
        record {
          bargains = reads_bargain o d;
          originators = R.originators;
          balances = λ j. ap (λ (z : Bargain). l.purses.balances j +ℤ share z.lender j (neg_ℤ z.terms.amount) +ℤ share (l.papers.originators z.invoice) j z.terms.amount) at_offer
              ∙ ap (λ z. l.purses.balances j +ℤ share k.lender j (neg_ℤ x) +ℤ share z j x) (R.originators k.invoice)
              ∙ ap (λ z. z +ℤ share k.lender j (neg_ℤ x) +ℤ share p j x) (R.balances j)
              ∙ ap (λ z. b.purses.balances j +ℤ balance r j +ℤ z +ℤ share p j x) (share_neg k.lender j x)
              ∙ after_three (b.purses.balances j) (balance r j) (neg_ℤ (share k.lender j x)) (share p j x)
              ∙ ap (λ z. b.purses.balances j +ℤ z) (sym (last_two_grow (amounts_of r.deposited j) (neg_ℤ (amounts_of r.paid j)) (accepted r j) (received r j) (share k.lender j x) (share p j x)));
          accepteds = λ j. ap (λ (z : Bargain). l.purses.accepteds j +ℤ share z.lender j z.terms.amount) at_offer
              ∙ ap (λ z. z +ℤ share k.lender j x) (R.accepteds j)
              ∙ +ℤ_assoc (b.purses.accepteds j) (accepted r j) (share k.lender j x);
          together = R.together;
        }

    -- the ledger and the history know alike whether it settles
    pub either_way : (P : Ledger → Found Settlement → Type 0) → (settles (terms_said before) (counter_of before) d ≡ true → P (sold o (noted o d l)) (here (settlement_of r (d ∷ before)))) → P (noted o d l) absent
        → P (post (deals o d) l) (settled_by r before d)
    unfolding post settled_by pick
    either_way P f g =
        subst (λ (k : Bargain). P (pick (settles k.terms k.counter d) (sold o (noted o d l)) (noted o d l)) (settled_by r before d)) (sym (R.bargains o))
        (go (settles (terms_said before) (counter_of before) d) f)
      where
        go : (b : Bool) → (b ≡ true → P (sold o (noted o d l)) (here (settlement_of r (d ∷ before)))) → P (pick b (sold o (noted o d l)) (noted o d l)) (pick b (here (settlement_of r (d ∷ before))) absent)
        go true f = f refl
        go false f = g

  reads_originator : (a i j : ℕ) → pick (eqb i j) a (l.papers.originators j) ≡ row 0 (find ((i, a) ∷ r.originators) j)
  unfolding find row pick
  reads_originator a i j = go (eqb i j)
    where
      go : (g : Bool) → pick g a (l.papers.originators j) ≡ row 0 (cond g (here a) (find r.originators j))
      go true = refl
      go false = R.originators j

  pub reads_post : (e : Entry) → Reads b (post e l) (add e r)
  unfolding post add balance accepted received amounts_of amounts together sum
  reads_post (opens a) = record { bargains = R.bargains; originators = R.originators; balances = R.balances; accepteds = R.accepteds; together = R.together }
  reads_post (deposits a x) = record {
    bargains = R.bargains;
    originators = R.originators;
    balances = λ j. ap (λ z. z +ℤ share a j x) (R.balances j)
        ∙ +ℤ_assoc (b.purses.balances j) (balance r j) (share a j x)
        ∙ ap (λ z. b.purses.balances j +ℤ z) (sym (first_grows (amounts_of r.deposited j) (neg_ℤ (amounts_of r.paid j)) (neg_ℤ (accepted r j)) (received r j) (share a j x)));
    accepteds = R.accepteds;
    together = ap (λ z. z +ℤ x) R.together
        ∙ +ℤ_assoc b.purses.together (together r) x
        ∙ ap (λ z. b.purses.together +ℤ z) (sym (swap (amounts r.deposited) x (neg_ℤ (amounts r.paid))));
  }
  reads_post (pays a x) = record {
    bargains = R.bargains;
    originators = R.originators;
    balances = λ j. ap (λ z. z +ℤ share a j (neg_ℤ x)) (R.balances j)
        ∙ ap (λ z. b.purses.balances j +ℤ balance r j +ℤ z) (share_neg a j x)
        ∙ +ℤ_assoc (b.purses.balances j) (balance r j) (neg_ℤ (share a j x))
        ∙ ap (λ z. b.purses.balances j +ℤ z) (sym (second_grows (amounts_of r.deposited j) (amounts_of r.paid j) (neg_ℤ (accepted r j)) (received r j) (share a j x)));
    accepteds = R.accepteds;
    together = ap (λ z. z +ℤ neg_ℤ x) R.together
        ∙ +ℤ_assoc b.purses.together (together r) (neg_ℤ x)
        ∙ ap (λ z. b.purses.together +ℤ z) (+ℤ_assoc (amounts r.deposited) (neg_ℤ (amounts r.paid)) (neg_ℤ x) ∙ ap (λ z. amounts r.deposited +ℤ z) (sym (neg_ℤ-+ℤ (amounts r.paid) x)));
  }
  reads_post (registers a i) = record { bargains = R.bargains; originators = reads_originator a i; balances = R.balances; accepteds = R.accepteds; together = R.together }
  reads_post (deals o d) = either_way o d (λ k s. Reads b k (dealt o d s r)) (λ e. settled o d) (unsettled o d)
  reads_post nothing = R
