-- Every accepted command keeps a book in agreement with its ledger.
use Rattle.std.specs.Prelude.{ℕ, ◌≡◌, ◌++◌, eqb, neg_ℤ}
use Rattle.std.proofs.Math.Path.{refl, subst}
use Rattle.std.proofs.Common.{sym}
use Rattle.std.proofs.Math.Bool.{Bool}
use borrow.Author.Tests.{eqb-true, not-false}
use Rattle.refusal.specs.Choice.{pick}
use Rattle.table.specs.Tables.{here, find}
use Rattle.terms.specs.Terms.{same_terms}
use Rattle.terms.specs.declared.Terms.{Terms}
use Rattle.negotiation.specs.Rounds.{round_slots, matches, agrees_of}
use Rattle.negotiation.specs.Whole.{Whole}
use Rattle.account.specs.declared.Account.{Account}
use Rattle.account.specs.Account.{offers}
use Rattle.account.specs.Rules.{reoffer_of}
use Rattle.offer.specs.Kept.{in_place}
use Rattle.offer.specs.declared.Deal.{Deal}
use Rattle.offer.specs.Rules.{accept_checks}
use Rattle.invoice.specs.Invoice.{invoice_of}
use Rattle.command.specs.Names.{account_names, names_for}
use Rattle.command.specs.Shape as Shape
use Rattle.rules.specs.Model.{Model, account_in, offer_in, paper_of, with_accounts, with_offers}
use Rattle.rules.specs.Rules.{lender_of, terms_in, settling, agreeing, amended_in, countered_in, account_rule, offer_rule, ruled, shaped, amends_in, counters_in}
use Rattle.history.specs.History.{amends, counters, deals, account_entry, entry_for, settles}
use Rattle.history.specs.Figures.{put}
use Rattle.rules.specs.Rooms.{unseen_account, unseen_invoice, unseen_deal}
use Rattle.history.specs.Passed.{Passes, passes_right, account_there, offer_there}
use Rattle.history.specs.Ledger.{Ledger, Bargain, raised, noted, sold, post, bargain_of}
use Rattle.history.specs.Agrees.{Agrees}
use Rattle.history.specs.Purses.{Like}
use Rattle.history.specs.Purses as Purses
use Rattle.history.specs.Papers as Papers
use Rattle.history.specs.Bargains as Bargains
use Rattle.history.specs.Settled.{settled, agreed, noted_accept, noted_amend, noted_counter}

module _ {l : Ledger} {m : Model} (A : Agrees l m) where
  -- commands that no ledger reads: only one row changes, and nothing that it shows
  on_account_lem : (a : ℕ) (new : Account) → Like (account_in m a).row new → Agrees l (with_accounts (put m.accounts a new) m)
  on_account_lem a new h = record { bargains = A.bargains; papers = A.papers; purses = Purses.kept A.purses a new h; financed = A.financed }

  on_offer_lem : (o : ℕ) (new : Deal) → bargain_of (here new) ≡ bargain_of (find m.offers o) → Whole round_slots new.negotiation → Agrees l (with_offers (put m.offers o new) m)
  on_offer_lem o new h w = record { bargains = Bargains.kept A.bargains o new h w; papers = A.papers; purses = A.purses; financed = A.financed }

  elsewhere : {n : Model} → n.offers ≡ m.offers → n.invoices ≡ m.invoices → n.accounts ≡ m.accounts → n.totals.financed ≡ m.totals.financed → Agrees l n
  elsewhere {n} p q r s = record { bargains = rw p A.bargains; papers = rw q A.papers; purses = rw r A.purses; financed = rw s A.financed }

  keeps_amend : (now a o : ℕ) (t : Terms) (n : ℕ) → Passes (shaped m (Shape.amends now a o t n)).checks → Agrees (post (deals o (amends t)) l) (shaped m (Shape.amends now a o t n)).done
  unfolding ruled post names_for settles agrees_of
  keeps_amend now a o t n p =
      let g : Bool = agrees_of round_slots (offer_in m o).row.negotiation t in
      let e : lender_of m o ≡ a = eqb-true (lender_of m o) a (not-false (eqb (lender_of m o) a) (search)) in
      let B : Agrees (noted o (amends t) l) (amended_in m now a o t) =
      noted_amend A now o t (offer_there (find m.offers o) (search)) (in_place m.settings.edition (offer_in m o).row.negotiation (search)) a (account_there (find m.accounts a) (search)) (sym e) in
      let q : Passes (agreeing g now o (amended_in m now a o t)).checks =
      passes_right (amends_in m now a o t n ++ (reoffer_of (account_in m a).row (terms_in m o) t).checks) (agreeing g now o (amended_in m now a o t)).checks p.1.1 in
      subst (λ (k : Bargain). Agrees (pick (matches t k.counter) (sold o (noted o (amends t) l)) (noted o (amends t) l)) (agreeing g now o (amended_in m now a o t)).done) (A.bargains.shown o)
      (agreed B now o g q)

  keeps_counter : (now a o : ℕ) (t : Terms) (n : ℕ) → Passes (shaped m (Shape.counters now a o t n)).checks → Agrees (post (deals o (counters t)) l) (shaped m (Shape.counters now a o t n)).done
  unfolding ruled post names_for settles
  keeps_counter now a o t n p =
      let g : Bool = same_terms (terms_in m o) t in
      let B : Agrees (noted o (counters t) l) (countered_in m now o t) = noted_counter A now o t (offer_there (find m.offers o) (search)) (in_place m.settings.edition (offer_in m o).row.negotiation (search)) in
      let q : Passes (agreeing g now o (countered_in m now o t)).checks =
      passes_right (counters_in m now a o t n) (agreeing g now o (countered_in m now o t)).checks p.1.1 in
      subst (λ (k : Bargain). Agrees (pick (same_terms k.terms t) (sold o (noted o (counters t) l)) (noted o (counters t) l)) (agreeing g now o (countered_in m now o t)).done) (A.bargains.shown o)
      (agreed B now o g q)

  keeps_account : (a : ℕ) (u : Shape.OnAccount) → Passes (shaped m (Shape.account a u)).checks → Agrees (post (account_entry a u) l) (ruled m (Shape.account a u)).done
  unfolding ruled account_rule account_entry post names_for account_names raised
  keeps_account a (Shape.deposits x) p = record { bargains = A.bargains; papers = A.papers; purses = Purses.moved A.purses a x (account_there (find m.accounts a) (search)); financed = A.financed }
  keeps_account a (Shape.pays x) p = record { bargains = A.bargains; papers = A.papers; purses = Purses.moved A.purses a (neg_ℤ x) (account_there (find m.accounts a) (search)); financed = A.financed }
  keeps_account a (Shape.approves x) p = on_account_lem a _ (record { balance = refl; offered = refl; accepted = refl })
  keeps_account a (Shape.lender_repaid b f) p = on_account_lem a _ (record { balance = refl; offered = refl; accepted = refl })
  keeps_account a (Shape.blacklists q c) p = on_account_lem a _ (record { balance = refl; offered = refl; accepted = refl })

  keeps_offer : (o : ℕ) (u : Shape.OnOffer) → Agrees l (ruled m (Shape.offer o u)).done
  unfolding ruled offer_rule
  keeps_offer o (Shape.withdraws a) = on_offer_lem o _ refl (A.bargains.rounds o)
  keeps_offer o (Shape.rejects a) = on_offer_lem o _ refl (A.bargains.rounds o)
  keeps_offer o (Shape.closes now a) = on_offer_lem o _ refl (record { long = (A.bargains.rounds o).long })
  keeps_offer o (Shape.schedules now a n c d k) = on_offer_lem o _ refl (A.bargains.rounds o)
  keeps_offer o (Shape.marks a c) = on_offer_lem o _ refl (A.bargains.rounds o)
  keeps_offer o (Shape.repaid a x) = on_offer_lem o _ refl (A.bargains.rounds o)

  pub keeps : (c : Shape.Shape) → Passes (shaped m c).checks → Agrees (post (entry_for c) l) (shaped m c).done
  unfolding ruled entry_for post names_for settles pick raised
  keeps (Shape.opens a) p = record { bargains = A.bargains; papers = A.papers; purses = Purses.opened A.purses a (unseen_account (find m.accounts a) (search)); financed = A.financed }
  keeps (Shape.account a u) p = keeps_account a u p
  keeps (Shape.registers a i x) p = record {
    bargains = A.bargains;
    papers = Papers.issued_by A.papers i a (invoice_of a x) refl (unseen_invoice (find m.invoices i) (search));
    purses = A.purses;
    financed = A.financed;
  }
  keeps (Shape.cancels a i) p = record { bargains = A.bargains; papers = Papers.cancelled A.papers i; purses = A.purses; financed = A.financed }
  keeps (Shape.creates a o i t e) p = record {
    bargains = Bargains.created A.bargains o a i t e (unseen_deal (find m.offers o) (search));
    papers = A.papers;
    purses = Purses.offered_by A.purses a t.amount (account_there (find m.accounts a) (search)) (offers t.amount 1 (account_in m a).row) refl refl refl;
    financed = A.financed;
  }
  keeps (Shape.offer o u) p = keeps_offer o u
  keeps (Shape.accepts now a o) p =
      settled (noted_accept A now o) now o (record { paper = search; pending = search })
      (passes_right (accept_checks (offer_in m o) now a (paper_of m o)) (settling now o m).checks p.1.1)
  keeps (Shape.amends now a o t n) p = keeps_amend now a o t n p
  keeps (Shape.counters now a o t n) p = keeps_counter now a o t n p
  keeps (Shape.totals a x f) p = elsewhere refl refl refl refl
  keeps (Shape.settings u) p = elsewhere refl refl refl refl
