-- What a book's rows say was put down before it is what the ledger that starts from it holds.
use Rattle.std.specs.Prelude.{ℕ, ◌+◌, ◌≤◌, ◌≡◌, refl, Bool, true, false, eqb, pos, ◌+ℤ◌, ◌-ℤ◌}
use Rattle.std.proofs.Common.{arith, ◌∙◌}
use Rattle.std.proofs.Math.Path.{sym, ap}
use Rattle.std.proofs.Math.Bool.{cond}
use mathlib.Core.List.{List, [], ◌∷◌}
use Rattle.std.proofs.Math.IntN.{+ℤ_idr, -ℤ-+ℤ_cancel}
use borrow.Author.Tests.{eqb-true}
use Rattle.refusal.specs.Choice.{pick}
use Rattle.table.specs.Tables.{Found, absent, here, Table, find, row, keys, hit}
use Rattle.table.specs.Deciding.{Is, is_true, is_false, decide}
use Rattle.table.specs.Rising.{Above, Rises}
use Rattle.table.specs.RisingLaws.{above_rises}
use Rattle.table.specs.Sums.{count}
use Rattle.terms.specs.declared.Terms.{Terms}
use Rattle.negotiation.specs.Rounds.{round_slots, asked}
use Rattle.negotiation.specs.Latest.{none_asked}
use Rattle.invoice.specs.declared.Invoice.{Invoice}
use Rattle.offer.specs.declared.Deal.{Deal}
use Rattle.rules.specs.Model.{Model}
use Rattle.seats.specs.Seats.{bit}
use Rattle.history.specs.History.{Deed, creates, Entry, opens, deposits, pays, registers, deals, nothing, Said, terms_said, counter_of, lender_said, invoice_of, deeds_on, add, sum, offered, accepted, received, amounts_of, amounts, balance, financed, together}
use Rattle.history.specs.Since.{countered_on, deeds_before, originators_before, said_before}
use Rattle.history.specs.Before.{base}
use Rattle.history.specs.Ledger.{Ledger, originator_in, bargain_of, start}
use Rattle.history.proofs.Reading.{bargain_in, Reads}
use Rattle.history.proofs.Fair.{Sums}

-- ── Offers and originators ────────────────────────────────────────
-- on o there was a create, and the counter k after it
module _ (i o a j : ℕ) (t : Terms) (rest : List (ℕ × Deed)) where
  abbrev deeds_then : Found Terms → List Deed
  deeds_then k = deeds_on o (countered_on i k ((i, creates a j t) ∷ rest))

  then_said : (k : Found Terms) → eqb i o ≡ true → record { lender = a; invoice = j; terms = t; counter = k } ≡ bargain_in (deeds_then k)
  unfolding countered_on deeds_on lender_said invoice_of terms_said counter_of pick
  then_said absent e = rw e
  then_said (here x) e = rw e

  elsewhere : (k : Found Terms) → eqb i o ≡ false → bargain_in (deeds_on o rest) ≡ bargain_in (deeds_then k)
  unfolding countered_on deeds_on pick
  elsewhere absent e = rw e
  elsewhere (here x) e = rw e

pub bargains_before : (t : Table Deal) (o : ℕ) → bargain_of (find t o) ≡ bargain_in (deeds_on o (deeds_before t))
unfolding find deeds_before deeds_on terms_said counter_of lender_said invoice_of
bargains_before [] o = ap (λ z. record { lender = 0; invoice = 0; terms = record { amount = pos 0; rate = 0; duration = 0 }; counter = z }) (none_asked round_slots)
bargains_before (e ∷ t) o = go (bargains_before t o) (decide (eqb e.0 o))
  where
    go : bargain_of (find t o) ≡ bargain_in (deeds_on o (deeds_before t)) → Is (eqb e.0 o) → bargain_of (cond (eqb e.0 o) (here e.1) (find t o)) ≡ bargain_in (deeds_on o (countered_on e.0 (asked round_slots e.1.negotiation) ((e.0, creates e.1.offer.lender e.1.offer.invoice e.1.offer.terms) ∷ deeds_before t)))
    go h (is_true q) = ap (λ g. bargain_of (cond g (here e.1) (find t o))) q ∙ then_said e.0 o e.1.offer.lender e.1.offer.invoice e.1.offer.terms (deeds_before t) (asked round_slots e.1.negotiation) q
    go h (is_false q) = ap (λ g. bargain_of (cond g (here e.1) (find t o))) q ∙ h ∙ elsewhere e.0 o e.1.offer.lender e.1.offer.invoice e.1.offer.terms (deeds_before t) (asked round_slots e.1.negotiation) q

pub originators_before_lem : (t : Table Invoice) (i : ℕ) → originator_in (find t i) ≡ row 0 (find (originators_before t) i)
unfolding find originators_before row
originators_before_lem [] i = refl
originators_before_lem (e ∷ t) i = go (originators_before_lem t i) (eqb e.0 i)
  where
    go : originator_in (find t i) ≡ row 0 (find (originators_before t) i) → (g : Bool) → originator_in (cond g (here e.1) (find t i)) ≡ row 0 (cond g (here e.1.originator) (find (originators_before t) i))
    go h true = refl
    go h false = h

-- ── The figures to which the sums are added ───────────────────────
pub reads_before : (s : Model) → Reads (base s) (start s) (said_before s)
unfolding sum balance accepted received together amounts_of amounts
reads_before s = record {
  bargains = bargains_before s.offers;
  originators = originators_before_lem s.invoices;
  balances = λ a. sym (+ℤ_idr ((start s).purses.balances a));
  accepteds = λ a. sym (+ℤ_idr ((start s).purses.accepteds a));
  together = sym (+ℤ_idr (start s).purses.together);
}

no_sum : (l : List ℕ) → sum (λ a. pos 0) l ≡ pos 0
unfolding sum
no_sum [] = refl
no_sum (a ∷ l) = +ℤ_idr _ ∙ no_sum l

pub sums_before : (s : Model) → Sums (base s) (start s) (said_before s)
unfolding financed accepted sum
sums_before s = record {
  offereds = λ a. sym (-ℤ-+ℤ_cancel ((start s).purses.offereds a) (offered (said_before s) a));
  financed = sym (ap (λ z. (start s).financed +ℤ z) (no_sum (keys s.accounts)) ∙ +ℤ_idr (start s).financed);
}

-- an account that is opened stays so
pub still_closed : (e : Entry) (r : Said) (a : ℕ) → count a (add e r).accounts ≡ 0 → count a r.accounts ≡ 0
unfolding add count
still_closed (opens x) r a z = omega (arith, z)
still_closed (deposits x y) r a z = z
still_closed (pays x y) r a z = z
still_closed (registers x i) r a z = z
still_closed (deals o d) r a z = z
still_closed nothing r a z = z

-- ── Each row stands once in the lists ─────────────────────────────
unlisted : (p i : ℕ) (l : List ℕ) → Above p l → i ≤ p → count i l ≡ 0
unfolding count hit
unlisted p i [] r h = refl
unlisted p i (x ∷ l) r h = go (unlisted x i l r.1 (omega (arith, r.0))) (decide (eqb x i))
  where
    go : count i l ≡ 0 → Is (eqb x i) → cond (eqb x i) 1 0 + count i l ≡ 0
    go k (is_true e) = absurd (omega (arith, eqb-true x i e, r.0))
    go k (is_false e) = simp e (omega (arith, k))

module _ {A : Type 0} (v : Found A → Bool) (yes : (r : A) → v (here r) ≡ true) (none : v absent ≡ false) where
  pub keys_once : (t : Table A) → Rises (keys t) → (i : ℕ) → count i (keys t) ≡ bit (v (find t i))
  unfolding keys count hit find
  keys_once [] r i = sym (ap bit none)
  keys_once (e ∷ t) r i = go (keys_once t (above_rises e.0 (keys t) r) i) (decide (eqb e.0 i))
    where
      go : count i (keys t) ≡ bit (v (find t i)) → Is (eqb e.0 i) → cond (eqb e.0 i) 1 0 + count i (keys t) ≡ bit (v (cond (eqb e.0 i) (here e.1) (find t i)))
      go h (is_true q) = simp q (omega (arith, unlisted e.0 i (keys t) r (omega (arith, eqb-true e.0 i q)), ap bit (yes e.1)))
      go h (is_false q) = simp q (omega (arith, h))
