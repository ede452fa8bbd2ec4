-- The invoices: originators stay, and what is no longer Pending stays so; a sale needs one that is.
use Rattle.std.specs.Prelude.{ℕ, ◌+◌, ◌≤◌, ◌≡◌, Bool, eqb}
use Rattle.std.proofs.Common.{arith, sym, ◌∙◌, eqb-true}
use Rattle.std.proofs.Math.Path.{refl, ap}
use Rattle.std.proofs.Math.Bool.{true, false, cond}
use Rattle.refusal.specs.Choice.{pick}
use Rattle.refusal.specs.ChoiceLaws.{pick_on, pick_off}
use Rattle.table.specs.Tables.{Found, absent, here, Table, find, insert, fmap, hit}
use Rattle.table.specs.Deciding.{Is, is_true, is_false, decide}
use Rattle.table.proofs.TableLaws.{find_adjust}
use Rattle.invoice.specs.declared.Invoice.{Invoice}
use Rattle.invoice.specs.Invoice.{in_status}
use Rattle.invoice.specs.Seen.{seen_invoice}
use Rattle.history.specs.Figures.{put, at_put, at_insert, at_kept}
use Rattle.history.specs.Ledger.{Papers, issued, selling_off, originator_in, shut}
use Rattle.history.specs.Agrees.{Papered}

pub shut_most : (s : Found Invoice) → shut s ≤ 1
unfolding shut pick
shut_most s = go (eqb (seen_invoice s).row.status 0)
  where
    go : (g : Bool) → pick g 0 1 ≤ 1
    go true = omega arith
    go false = omega arith

pub open_pending : (s : Found Invoice) → eqb (seen_invoice s).row.status 0 ≡ true → shut s ≡ 0
unfolding shut
open_pending s e = pick_on 0 1 e

module _ {p : Papers} {t : Table Invoice} (P : Papered p t) (i : ℕ) where
  abbrev there : Invoice
  there = (seen_invoice (find t i)).row

  pub cancelled : Papered p (put t i (in_status 2 there))
  unfolding fmap shut pick
  cancelled = record {
    originators = λ j. at_kept originator_in t i (in_status 2 there) refl j ∙ P.originators j;
    once = λ j. rw find_adjust (go j (eqb i j) (find t j) (P.once j));
  }
    where
      go : (j : ℕ) (g : Bool) (s : Found Invoice) → p.sales j ≤ shut s → p.sales j ≤ shut (cond g (fmap (λ old. in_status 2 there) s) s)
      go j true absent h = h
      go j true (here r) h = omega (arith, h, shut_most (here r))
      go j false s h = h

  pub issued_by : (a : ℕ) (new : Invoice) → new.originator ≡ a → find t i ≡ absent → Papered (issued a i p) (insert t i new)
  issued_by a new e n = record {
    originators = λ j. at_insert originator_in t i new n j ∙ ap (λ z. pick (eqb i j) z (originator_in (find t j))) e ∙ ap (λ z. pick (eqb i j) a z) (P.originators j);
    once = λ j. rw (at_insert shut t i new n j) (go j (eqb i j) refl);
  }
    where
      go : (j : ℕ) (g : Bool) → eqb i j ≡ g → p.sales j ≤ pick (eqb i j) (shut (here new)) (shut (find t j))
      go j true e = let q : shut (find t j) ≡ 0 = ap shut (ap (find t) (sym (eqb-true i j e)) ∙ n) ∙ open_pending absent refl in omega (arith, P.once j)
      go j false e = rw (pick_off (shut (here new)) (shut (find t j)) e) (P.once j)

  -- one sale more of an invoice that was Pending
  pub sold_off : find t i ≡ here there → eqb there.status 0 ≡ true → Papered (selling_off i p) (put t i (in_status 1 there))
  unfolding hit shut
  sold_off n e = record {
    originators = λ j. at_kept originator_in t i (in_status 1 there) refl j ∙ P.originators j;
    once = λ j. rw (at_put shut t i there (in_status 1 there) n j) (go j (decide (eqb i j)));
  }
    where
      go : (j : ℕ) → Is (eqb i j) → p.sales j + cond (eqb i j) 1 0 ≤ pick (eqb i j) (shut (here (in_status 1 there))) (shut (find t j))
      go j (is_true f) =
          let y : shut (find t j) ≡ 0 = ap (λ a. shut (find t a)) (sym (eqb-true i j f)) ∙ open_pending (find t i) e in
          let z : shut (here (in_status 1 there)) ≡ 1 = pick_off 0 1 refl in
          rw (pick_on (shut (here (in_status 1 there))) (shut (find t j)) f, f) (omega (arith, P.once j))
      go j (is_false f) = rw (pick_off (shut (here (in_status 1 there))) (shut (find t j)) f, f) (omega (arith, P.once j))
