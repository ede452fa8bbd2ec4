-- Each account opened and each offer created stands once in the history's lists: the ids of the book's rows, after every accepted command.
use Rattle.std.specs.Prelude.{ℕ, ◌+◌, ◌≤◌, ◌≡◌, Bool, List, ◌∷◌, eqb, length}
use Rattle.std.proofs.Common.{arith, ◌∙◌}
use Rattle.std.proofs.Math.Path.{refl, sym, ap}
use Rattle.std.proofs.Math.Bool.{true, false, cond}
use borrow.Author.Tests.{eqb-true, leb-false}
use Rattle.refusal.specs.Choice.{pick}
use Rattle.table.specs.Tables.{Found, absent, here, Table, find, insert, fmap, hit}
use Rattle.table.specs.Deciding.{Is, is_true, is_false, decide}
use Rattle.table.proofs.TableLaws.{find_adjust, find_insert, length_adjust, length-insert}
use Rattle.table.specs.Sums.{count}
use Rattle.negotiation.specs.Rounds.{round_slots, agrees_of}
use Rattle.terms.specs.Terms.{same_terms}
use Rattle.account.specs.declared.Account.{Account}
use Rattle.account.specs.Account.{no_account, offers}
use Rattle.offer.specs.declared.Deal.{Deal}
use Rattle.offer.specs.Offer.{new_deal, settled_deal}
use Rattle.account.specs.Seen.{seen_account}
use Rattle.offer.specs.Seen.{seen_deal}
use Rattle.command.specs.Shape as Shape
use Rattle.rules.specs.Model.{Model, account_in, offer_in, with_accounts, with_offers}
use Rattle.rules.specs.Rules.{terms_in, settling, concluding, agreeing, amended_in, countered_in, ruled, shaped}
use Rattle.seats.specs.Seats.{bit}
use Rattle.history.specs.History.{Said, grow, created_by, account_entry, entry_for, add}
use Rattle.history.specs.Figures.{put}
use Rattle.rules.specs.Rooms.{unseen_account, unseen_deal}
use Rattle.history.specs.Passed.{Passes}

abbrev pub account_here : Found Account → Bool
account_here s = (seen_account s).here

abbrev pub offer_here : Found Deal → Bool
offer_here s = (seen_deal s).here

pub record Listed (r : Said) (m : Model) : Type 0 where
  pub accounts : (a : ℕ) → count a r.accounts ≡ bit (account_here (find m.accounts a))
  pub offers : (o : ℕ) → count o r.offers ≡ bit (offer_here (find m.offers o))
  pub room : length m.accounts ≤ 64

-- a test that every row passes and no absent one, and the rows that pass it
module _ {A : Type 0} (v : Found A → Bool) (yes : (r : A) → v (here r) ≡ true) (none : v absent ≡ false) (t : Table A) (i : ℕ) where
  here_put : (new : A) (j : ℕ) → v (find (put t i new) j) ≡ v (find t j)
  unfolding fmap
  here_put new j = rw find_adjust (go (eqb i j) (find t j))
    where
      go : (g : Bool) (s : Found A) → v (cond g (fmap (λ old. new) s) s) ≡ v s
      go true absent = refl
      go true (here r) = yes new ∙ sym (yes r)
      go false s = refl

  here_insert : (r : A) (l : List ℕ) → find t i ≡ absent → ((j : ℕ) → count j l ≡ bit (v (find t j))) → (j : ℕ) → count j (i ∷ l) ≡ bit (v (find (insert t i r) j))
  unfolding count hit
  here_insert r l n h j = rw (find_insert t i j r n) (go (decide (eqb i j)))
    where
      go : Is (eqb i j) → cond (eqb i j) 1 0 + count j l ≡ bit (v (cond (eqb i j) (here r) (find t j)))
      go (is_true e) =
          let q : bit (v (find t j)) ≡ 0 = ap (λ z. bit (v z)) (ap (find t) (sym (eqb-true i j e)) ∙ n) ∙ ap bit none in
          let y : bit (v (here r)) ≡ 1 = ap bit (yes r) in
          simp e (omega (arith, h j))
      go (is_false e) = simp e (omega (arith, h j))

-- ── Commands that open and create nothing leave the ids ───────────
record Same (m n : Model) : Type 0 where
  accounts : (a : ℕ) → account_here (find n.accounts a) ≡ account_here (find m.accounts a)
  offers : (o : ℕ) → offer_here (find n.offers o) ≡ offer_here (find m.offers o)
  size : length n.accounts ≡ length m.accounts

aside : {m n : Model} → n.accounts ≡ m.accounts → n.offers ≡ m.offers → Same m n
aside p q = record { accounts = λ j. ap (λ t. account_here (find t j)) p; offers = λ j. ap (λ t. offer_here (find t j)) q; size = ap length p }

module _ {m : Model} where
  by_account : (a : ℕ) (new : Account) → Same m (with_accounts (put m.accounts a new) m)
  by_account a new = record { accounts = here_put account_here (λ r. refl) refl m.accounts a new; offers = λ j. refl; size = length_adjust m.accounts a (λ old. new) }

  by_offer : (o : ℕ) (new : Deal) → Same m (with_offers (put m.offers o new) m)
  by_offer o new = record { accounts = λ j. refl; offers = here_put offer_here (λ r. refl) refl m.offers o new; size = refl }

then : {m n k : Model} → Same m n → Same n k → Same m k
then f g = record { accounts = λ j. g.accounts j ∙ f.accounts j; offers = λ j. g.offers j ∙ f.offers j; size = g.size ∙ f.size }

same_settling : (now o : ℕ) (m : Model) → Same m (settling now o m).done
unfolding settling
same_settling now o m = then (by_account _ _) (then (by_account _ _) (then (by_account _ _) (then (by_offer o (settled_deal now (offer_in m o).row)) (aside refl refl))))

same_agreeing : (g : Bool) (now o : ℕ) (m : Model) → Same m (agreeing g now o m).done
unfolding agreeing concluding pick
same_agreeing true now o m = same_settling now o m
same_agreeing false now o m = aside refl refl

module _ {r : Said} {m : Model} (L : Listed r m) where
  still : {s : Said} {n : Model} → s.accounts ≡ r.accounts → s.offers ≡ r.offers → Same m n → Listed s n
  still {s} {n} p q f = record {
    accounts = λ j. ap (count j) p ∙ L.accounts j ∙ ap bit (sym (f.accounts j));
    offers = λ j. ap (count j) q ∙ L.offers j ∙ ap bit (sym (f.offers j));
    room = omega (arith, f.size, L.room);
  }

  listed_account : (a : ℕ) (u : Shape.OnAccount) → Listed (add (account_entry a u) r) (ruled m (Shape.account a u)).done
  unfolding ruled account_entry add
  listed_account a (Shape.deposits x) = still refl refl (by_account a _)
  listed_account a (Shape.pays x) = still refl refl (by_account a _)
  listed_account a (Shape.approves x) = still refl refl (by_account a _)
  listed_account a (Shape.lender_repaid b f) = still refl refl (by_account a _)
  listed_account a (Shape.blacklists p c) = still refl refl (by_account a _)

  pub listed_after : (c : Shape.Shape) → Passes (shaped m c).checks → Listed (add (entry_for c) r) (shaped m c).done
  unfolding ruled entry_for add grow created_by
  listed_after (Shape.opens a) p = record {
    accounts = here_insert account_here (λ r. refl) refl m.accounts a no_account r.accounts (unseen_account (find m.accounts a) (search)) L.accounts;
    offers = L.offers;
    room = omega (arith, length-insert m.accounts a no_account, leb-false 64 (length m.accounts) (search));
  }
  listed_after (Shape.account a u) p = listed_account a u
  listed_after (Shape.registers a i x) p = still refl refl (aside refl refl)
  listed_after (Shape.cancels a i) p = still refl refl (aside refl refl)
  listed_after (Shape.creates a o i t e) p =
      let f = by_account {m = m} a (offers t.amount 1 (account_in m a).row) in
      record {
        accounts = λ j. L.accounts j ∙ ap bit (sym (f.accounts j));
        offers = here_insert offer_here (λ r. refl) refl m.offers o (new_deal a i t e) r.offers (unseen_deal (find m.offers o) (search)) L.offers;
        room = omega (arith, f.size, L.room);
      }
  listed_after (Shape.offer o u) p = still refl refl (by_offer o _)
  listed_after (Shape.accepts now a o) p = still refl refl (same_settling now o m)
  listed_after (Shape.amends now a o t n) p = still refl refl (then (by_offer o _) (then (by_account a _) (same_agreeing (agrees_of round_slots (offer_in m o).row.negotiation t) now o (amended_in m now a o t))))
  listed_after (Shape.counters now a o t n) p = still refl refl (then (by_offer o _) (same_agreeing (same_terms (terms_in m o) t) now o (countered_in m now o t)))
  listed_after (Shape.totals a x f) p = still refl refl (aside refl refl)
  listed_after (Shape.settings u) p = still refl refl (aside refl refl)
