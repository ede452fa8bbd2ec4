-- An accepted command is fair: the checks that it passed say so, where the book agrees with the history before it.
use Rattle.std.specs.Prelude.{ℕ, ◌≡◌, Bool, true, false, not, eqb, pos, ◌+ℤ◌}
use Rattle.std.proofs.Math.Path.{sym, ap, subst}
use Rattle.std.proofs.Common.{◌∙◌, eqb-true}
use Rattle.std.proofs.Math.IntN.{+ℤ_idl}
use Rattle.std.proofs.lemmas.Bool.{not-false}
use Rattle.money.specs.Facts.{never}
use Rattle.refusal.specs.Choice.{pick}
use Rattle.table.specs.Tables.{find}
use Rattle.table.specs.Sums.{count}
use Rattle.terms.specs.Terms.{same_terms}
use Rattle.terms.specs.declared.Terms.{Terms}
use Rattle.command.specs.Names.{names_for}
use Rattle.command.specs.Shape as Shape
use Rattle.offer.specs.Kept.{in_place}
use Rattle.rules.specs.Model.{Model, account_in, offer_in, paper_of}
use Rattle.rules.specs.Rules.{terms_in, settling, concluding, agreeing, countered_in, ruled, shaped, counters_in}
use Rattle.rules.specs.Rules as Rules
use Rattle.seats.specs.Seats.{bit}
use Rattle.history.specs.History.{counters, account_entry, entry_for, lender_said, settles, Said, deeds_on, accepted}
use Rattle.rules.specs.Rooms.{unseen_account}
use Rattle.history.specs.Passed.{Passes, passes_right, offer_there}
use Rattle.history.specs.Ledger.{Ledger, Bargain, noted, accepted_in}
use Rattle.history.specs.Agrees.{Agrees}
use Rattle.history.specs.Settled.{noted_counter}
use Rattle.history.proofs.Reading.{Reads, at_offer}
use Rattle.history.proofs.Fair.{Fair}
use Rattle.history.specs.Listed.{Listed}

there : (b : Bool) {n : ℕ} → n ≡ bit b → not b ≡ false → n ≡ 1
there b e h = e ∙ ap bit (not-false b h)

new : (b : Bool) {n : ℕ} → n ≡ bit b → b ≡ false → n ≡ 0
new b e h = e ∙ ap bit h

-- an account that is not opened yet had no accepted total before
abbrev pub Late : Ledger → Said → Type 0
Late b r = (a : ℕ) → count a r.accounts ≡ 0 → b.purses.accepteds a ≡ pos 0

module _ {b l : Ledger} {r : Said} {m : Model} (A : Agrees l m) (R : Reads b l r) (L : Listed r m) (N : Late b r) where
  -- the book and the history know one lender
  lender_is : (o : ℕ) → Rules.lender_of m o ≡ lender_said (deeds_on o r.deeds)
  lender_is o = ap (λ (k : Bargain). k.lender) (A.bargains.shown o ∙ R.bargains o)

  listed_once : {n : ℕ} (a : ℕ) → a ≡ n → not (account_in m a).here ≡ false → count n r.accounts ≡ 1
  listed_once a e h = ap (λ z. count z r.accounts) (sym e) ∙ there (account_in m a).here (L.accounts a) h

  -- a counter that settles finds its lender's account
  counter_lender : (now a o : ℕ) (t : Terms) (n : ℕ) → Passes (shaped m (Shape.counters now a o t n)).checks → same_terms (terms_in m o) t ≡ true
      → not (account_in m (Rules.lender_of (countered_in m now o t) o)).here ≡ false
  unfolding ruled agreeing concluding pick
  counter_lender now a o t n p g =
      let k : Model = countered_in m now o t in
      let q : Passes (agreeing (same_terms (terms_in m o) t) now o k).checks =
      passes_right (counters_in m now a o t n) (agreeing (same_terms (terms_in m o) t) now o k).checks p.1.1 in
      let s : Passes (concluding now o k).checks = subst (λ (b : Bool). Passes (agreeing b now o k).checks) g q in
      (search)

  fair_account : (a : ℕ) (u : Shape.OnAccount) → Fair r (account_entry a u)
  unfolding account_entry
  fair_account a (Shape.deposits x) = tt
  fair_account a (Shape.pays x) = tt
  fair_account a (Shape.approves x) = tt
  fair_account a (Shape.lender_repaid b f) = tt
  fair_account a (Shape.blacklists p c) = tt

  pub fair : (c : Shape.Shape) → Passes (shaped m c).checks → Fair r (entry_for c)
  unfolding ruled entry_for names_for settles settling lender_said
  fair (Shape.opens a) p =
      let z : count a r.accounts ≡ 0 = new (account_in m a).here (L.accounts a) (search) in
      sym (ap (λ x. x +ℤ accepted r a) (N a z) ∙ +ℤ_idl (accepted r a)) ∙ sym (R.accepteds a) ∙ sym (A.purses.accepteds a) ∙ ap accepted_in (unseen_account (find m.accounts a) (search))
  fair (Shape.account a u) p = fair_account a u
  fair (Shape.registers a i x) p = tt
  fair (Shape.cancels a i) p = tt
  fair (Shape.creates a o i t e) p = record { known = new (offer_in m o).here (L.offers o) (search); banked = λ z. absurd (never z) }
  fair (Shape.offer o u) p = tt
  fair (Shape.accepts now a o) p = record { known = tt; banked = λ z. listed_once (Rules.lender_of m o) (lender_is o) (search) }
  fair (Shape.amends now a o t n) p = record { known = there (offer_in m o).here (L.offers o) (search); banked = λ z. listed_once a (sym (eqb-true (Rules.lender_of m o) a (not-false (eqb (Rules.lender_of m o) a) (search))) ∙ lender_is o) (search) }
  fair (Shape.counters now a o t n) p =
      let B : Agrees (noted o (counters t) l) (countered_in m now o t) = noted_counter A now o t (offer_there (find m.offers o) (search)) (in_place m.settings.edition (offer_in m o).row.negotiation (search)) in
      record {
        known = tt;
        banked = λ z. listed_once (Rules.lender_of (countered_in m now o t) o) (ap (λ (k : Bargain). k.lender) (B.bargains.shown o ∙ at_offer R o (counters t)))
            (counter_lender now a o t n p (ap (λ (k : Bargain). same_terms k.terms t) (A.bargains.shown o ∙ R.bargains o) ∙ z));
      }
  fair (Shape.totals a x f) p = tt
  fair (Shape.settings u) p = tt
