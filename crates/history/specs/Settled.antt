-- Accept, amend and counter on the whole book: up to the round, where the book agrees with a ledger of no history, and the settlement after it.
use Prim.Native.Nat.{ℕ}
use Rattle.std.specs.Prelude.{◌≡◌, Bool, not, eqb, leb, ◌+ℤ◌, ◌-ℤ◌}
use Rattle.std.proofs.Math.Path.{refl, ap, subst}
use Rattle.std.proofs.Math.Bool.{true, false}
use Rattle.std.proofs.lemmas.Bool.{not-false}
use Rattle.refusal.specs.Choice.{pick}
use Rattle.table.specs.Tables.{here, find}
use Rattle.terms.specs.declared.Terms.{Terms}
use Rattle.negotiation.specs.Rounds.{round_slots}
use Rattle.account.specs.Purse.{reoffers}
use Rattle.account.specs.Account.{with_purse}
use Rattle.totals.specs.Totals.{finance_of}
use Rattle.parties.specs.Settlement.{settle_accounts}
use Rattle.offer.specs.Rules.{agreement_checks}
use Rattle.rules.specs.Model.{Model, account_in, offer_in, paper_of}
use Rattle.rules.specs.Rules.{lender_of, terms_in, settling, concluding, agreeing, amended_in, countered_in}
use Rattle.rules.specs.Rules as Rules
use Rattle.history.specs.History.{amends, counters, accepts}
use Rattle.history.specs.Passed.{Passes, passes_left, passes_right, invoice_there}
use Rattle.history.specs.Ledger.{Bargain, Ledger, offering, paying, raised, noted, struck, sold, bargain_of}
use Rattle.history.specs.Agrees.{Pursed, Agrees}
use Rattle.history.specs.Purses as Purses
use Rattle.history.specs.Papers as Papers
use Rattle.history.specs.Bargains as Bargains

-- the invoice that the offer is on is there and Pending
pub record Sellable (m : Model) (o : ℕ) : Type 0 where
  pub paper : not (paper_of m o).here ≡ false
  pub pending : not (eqb (paper_of m o).row.status 0) ≡ false

module _ {l : Ledger} {m : Model} (A : Agrees l m) (now o : ℕ) where
  pub settled : Sellable m o → Passes (settling now o m).checks → Agrees (sold o l) (settling now o m).done
  unfolding settling
  settled s p =
      let k : Bargain = bargain_of (find m.offers o) in
      let b : ℕ = Rules.originator_of m o in
      let q : Passes (settle_accounts m.accounts k.lender b k.terms).checks =
      passes_left (settle_accounts m.accounts k.lender b k.terms).checks (finance_of m.totals k.terms).checks p in
      subst (λ (z : Bargain). Agrees (struck z l) (settling now o m).done) (A.bargains.shown o)
      (record {
        bargains = Bargains.settled A.bargains o now;
        papers = Papers.sold_off A.papers k.invoice (invoice_there (find m.invoices k.invoice) s.paper) (not-false (eqb (paper_of m o).row.status 0) s.pending);
        purses = subst (λ z. Pursed (paying k.lender z k.terms.amount l.purses) (settle_accounts m.accounts k.lender b k.terms).done) (A.papers.originators k.invoice)
            (Purses.settled A.purses k.lender b k.terms q);
        financed = ap (λ z. z +ℤ k.terms.amount) A.financed;
      })

  -- agreement, or none
  pub agreed : (g : Bool) → Passes (agreeing g now o m).checks → Agrees (pick g (sold o l) l) (agreeing g now o m).done
  unfolding agreeing concluding pick
  agreed true p =
      settled (record { paper = search; pending = search })
      (passes_right (agreement_checks (offer_in m o).row now (paper_of m o) (account_in m (lender_of m o)) (account_in m (Rules.originator_of m o))) (settling now o m).checks p)
  agreed false p = A

  pub noted_accept : Agrees (noted o accepts l) m
  unfolding raised
  noted_accept = record { bargains = Bargains.accepted A.bargains o; papers = A.papers; purses = A.purses; financed = A.financed }

  module _ (t : Terms) (n : find m.offers o ≡ here (offer_in m o).row) (room : leb round_slots (offer_in m o).row.negotiation.len ≡ false) where
    pub noted_counter : Agrees (noted o (counters t) l) (countered_in m now o t)
    unfolding raised
    noted_counter = record { bargains = Bargains.countered A.bargains o now m.settings.window t n room; papers = A.papers; purses = A.purses; financed = A.financed }

    pub noted_amend : (a : ℕ) → find m.accounts a ≡ here (account_in m a).row → a ≡ lender_of m o → Agrees (noted o (amends t) l) (amended_in m now a o t)
    unfolding raised
    noted_amend a h e =
        let x = t.amount -ℤ (terms_in m o).amount in
        record {
          bargains = Bargains.amended A.bargains o now m.settings.window t n room;
          papers = A.papers;
          purses = subst (λ (z : Bargain). Pursed (offering z.lender (t.amount -ℤ z.terms.amount) l.purses) (amended_in m now a o t).accounts) (A.bargains.shown o)
              (subst (λ z. Pursed (offering z x l.purses) (amended_in m now a o t).accounts) e (Purses.offered_by A.purses a x h (with_purse (reoffers x) (account_in m a).row) refl refl refl));
          financed = A.financed;
        }
