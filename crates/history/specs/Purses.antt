-- The accounts' figures: a row put anew that shows the same ones, an account opened, a figure moved, a settlement paid.
use Rattle.std.specs.Prelude.{ℕ, ◌≡◌, refl, Bool, true, false, eqb, ℤ, ◌+ℤ◌, neg_ℤ}
use Rattle.std.proofs.Common.{sym, ap, ◌∙◌, eqb-true}
use Rattle.std.proofs.Math.IntN.{+ℤ_idr, -ℤ-+ℤ_cancel}
use Rattle.refusal.specs.Choice.{pick}
use Rattle.refusal.specs.ChoiceLaws.{pick_on, pick_off}
use Rattle.table.specs.Tables.{Found, absent, here, Table, find, insert}
use Rattle.terms.specs.declared.Terms.{Terms}
use Rattle.account.specs.declared.Account.{Account}
use Rattle.account.specs.Purse.{gains, pays, accepts}
use Rattle.account.specs.Account.{no_account, with_purse}
use Rattle.parties.specs.Settlement.{seen_in, settle_accounts}
use Rattle.history.specs.History.{share}
use Rattle.history.specs.Figures.{put, tally, at_insert, at_kept, figure_put, tally_put, tally_kept, tally_insert}
use Rattle.history.specs.Passed.{Passes, account_there}
use Rattle.history.specs.Ledger.{Purses, banked, offering, paying, balance_of, offered_of, accepted_in}
use Rattle.history.specs.Agrees.{Pursed}

-- a row with the same three figures
pub record Like (old new : Account) : Type 0 where
  pub balance : new.purse.balance ≡ old.purse.balance
  pub offered : new.purse.offered ≡ old.purse.offered
  pub accepted : new.purse.accepted ≡ old.purse.accepted

-- a row let in that shows what is shown where there is none
unseen : (v : Found Account → ℤ) (t : Table Account) (a : ℕ) (r : Account) → find t a ≡ absent → v (here r) ≡ v absent → (j : ℕ) → v (find (insert t a r) j) ≡ v (find t j)
unseen v t a r n h j = at_insert v t a r n j ∙ go (eqb a j) refl
  where
    go : (g : Bool) → eqb a j ≡ g → pick (eqb a j) (v (here r)) (v (find t j)) ≡ v (find t j)
    go true e = pick_on _ _ e ∙ h ∙ ap v (sym (ap (find t) (sym (eqb-true a j e)) ∙ n))
    go false e = pick_off _ _ e

module _ {q : Purses} {t : Table Account} (P : Pursed q t) where
  pub kept : (a : ℕ) (new : Account) → Like (seen_in t a).row new → Pursed q (put t a new)
  kept a new h = record {
    balances = λ j. at_kept balance_of t a new h.balance j ∙ P.balances j;
    offereds = λ j. at_kept offered_of t a new h.offered j ∙ P.offereds j;
    accepteds = λ j. at_kept accepted_in t a new h.accepted j ∙ P.accepteds j;
    together = tally_kept balance_of t a new h.balance ∙ P.together;
  }

  pub opened : (a : ℕ) → find t a ≡ absent → Pursed q (insert t a no_account)
  opened a n = record {
    balances = λ j. unseen balance_of t a no_account n refl j ∙ P.balances j;
    offereds = λ j. unseen offered_of t a no_account n refl j ∙ P.offereds j;
    accepteds = λ j. unseen accepted_in t a no_account n refl j ∙ P.accepteds j;
    together = tally_insert balance_of t a no_account ∙ +ℤ_idr _ ∙ P.together;
  }

  module _ (a : ℕ) (x : ℤ) (n : find t a ≡ here (seen_in t a).row) where
    -- a deposit of x, and a payout of -x
    pub moved : Pursed (banked a x q) (put t a (with_purse (gains x) (seen_in t a).row))
    moved =
        let r : Account = (seen_in t a).row in
        record {
          balances = λ j. figure_put balance_of t a r (with_purse (gains x) r) x n refl j ∙ ap (λ z. z +ℤ share a j x) (P.balances j);
          offereds = λ j. at_kept offered_of t a (with_purse (gains x) r) refl j ∙ P.offereds j;
          accepteds = λ j. at_kept accepted_in t a (with_purse (gains x) r) refl j ∙ P.accepteds j;
          together = tally_put balance_of t a r (with_purse (gains x) r) x n refl ∙ ap (λ z. z +ℤ x) P.together;
        }

    -- an offer of x, and an amendment by x
    pub offered_by : (new : Account) → new.purse.offered ≡ (seen_in t a).row.purse.offered +ℤ x → new.purse.balance ≡ (seen_in t a).row.purse.balance → new.purse.accepted ≡ (seen_in t a).row.purse.accepted
        → Pursed (offering a x q) (put t a new)
    offered_by new e f g = record {
      balances = λ j. at_kept balance_of t a new f j ∙ P.balances j;
      offereds = λ j. figure_put offered_of t a (seen_in t a).row new x n e j ∙ ap (λ z. z +ℤ share a j x) (P.offereds j);
      accepteds = λ j. at_kept accepted_in t a new g j ∙ P.accepteds j;
      together = tally_kept balance_of t a new f ∙ P.together;
    }

  -- settlement: a pays, b has it, and a's accepted total grows; debit before credit if both are one row
  pub settled : (a b : ℕ) (x : Terms) → Passes (settle_accounts t a b x).checks → Pursed (paying a b x.amount q) (settle_accounts t a b x).done
  settled a b x p =
      let one : Account = with_purse (pays (neg_ℤ x.amount)) (seen_in t a).row in
      let u : Table Account = put t a one in
      let two : Account = with_purse (gains x.amount) (seen_in u b).row in
      let w : Table Account = put u b two in
      let three : Account = with_purse (accepts x.amount) (seen_in w a).row in
      let e : find t a ≡ here (seen_in t a).row = account_there (find t a) (search) in
      let f : find u b ≡ here (seen_in u b).row = account_there (find u b) (search) in
      let g : find w a ≡ here (seen_in w a).row = account_there (find w a) (search) in
      record {
        balances = λ j. at_kept balance_of w a three refl j
            ∙ figure_put balance_of u b (seen_in u b).row two x.amount f refl j
            ∙ ap (λ z. z +ℤ share b j x.amount) (figure_put balance_of t a (seen_in t a).row one (neg_ℤ x.amount) e refl j)
            ∙ ap (λ z. z +ℤ share a j (neg_ℤ x.amount) +ℤ share b j x.amount) (P.balances j);
        offereds = λ j. at_kept offered_of w a three refl j ∙ at_kept offered_of u b two refl j ∙ at_kept offered_of t a one refl j ∙ P.offereds j;
        accepteds = λ j. figure_put accepted_in w a (seen_in w a).row three x.amount g refl j
            ∙ ap (λ z. z +ℤ share a j x.amount) (at_kept accepted_in u b two refl j ∙ at_kept accepted_in t a one refl j ∙ P.accepteds j);
        together = tally_kept balance_of w a three refl
            ∙ tally_put balance_of u b (seen_in u b).row two x.amount f refl
            ∙ ap (λ z. z +ℤ x.amount) (tally_put balance_of t a (seen_in t a).row one (neg_ℤ x.amount) e refl)
            ∙ -ℤ-+ℤ_cancel (tally balance_of t) x.amount
            ∙ P.together;
      }
