-- What passed checks say of an offer's parties, and that a round leaves them
use Rattle.std.specs.Prelude.{ℕ, ◌≡◌, Bool, true, false, not, ◌++◌, eqb}
use Rattle.std.proofs.Math.Path.{refl}
use Rattle.std.proofs.Common.{ap, ◌∙◌, eqb-true}
use Rattle.std.proofs.lemmas.Bool.{not-false}
use Rattle.refusal.specs.ChoiceLaws.{pick_on, pick_off}
use Rattle.refusal.specs.Refusal.{first}
use Rattle.refusal.specs.Rule.{sure}
use Rattle.refusal.specs.RuleLaws.{passed, both_pass}
use Rattle.table.specs.Tables.{Found, absent, here, Table, find, adjust, fmap}
use Rattle.table.proofs.SameId.{find-put}
use Rattle.table.proofs.NamedLaws.{never}
use Rattle.terms.specs.Terms.{same_terms}
use Rattle.terms.specs.declared.Terms.{Terms}
use Rattle.negotiation.specs.Rounds.{round_slots, agrees_of}
use Rattle.account.specs.Rules.{reoffer_of}
use Rattle.account.specs.declared.Account.{Account}
use Rattle.offer.specs.Offer.{amended_deal, countered_deal}
use Rattle.offer.specs.Rules.{accept_checks}
use Rattle.offer.specs.Seen.{seen_deal}
use Rattle.offer.specs.declared.Deal.{Deal}
use Rattle.rules.specs.Model.{Model, account_in, invoice_in, offer_in, paper_of}
use Rattle.rules.specs.Rules.{concluding, agreeing, amending, countering, with_lender_round, amended_in, countered_in, lender_of, originator_of, terms_in, amends_in, counters_in}

-- agreement or none
pub agrees_on : {b : Bool} (now o : ℕ) (m : Model) → b ≡ true → agreeing b now o m ≡ concluding now o m
unfolding agreeing
agrees_on now o m e = pick_on _ _ e

pub agrees_off : {b : Bool} (now o : ℕ) (m : Model) → b ≡ false → agreeing b now o m ≡ sure m
unfolding agreeing
agrees_off now o m e = pick_off _ _ e

pub is_id_lem : {x a : ℕ} → not (eqb x a) ≡ false → x ≡ a
is_id_lem {x} {a} e = eqb-true x a (not-false _ e)

-- ── An offer that is put anew with its lender and its invoice ─────
part : {B : Type 0} (g : Deal → B) (f : Found Deal) (d : Deal) → g d ≡ g (seen_deal f).row → not (seen_deal f).here ≡ false → g (seen_deal (fmap (λ old. d) f)).row ≡ g (seen_deal f).row
unfolding fmap
part g absent d e h = never h
part g (here r) d e h = e

part_put : {B : Type 0} (g : Deal → B) (u : Table Deal) (o : ℕ) (d : Deal) → g d ≡ g (seen_deal (find u o)).row → not (seen_deal (find u o)).here ≡ false → g (seen_deal (find (adjust u o (λ old. d)) o)).row ≡ g (seen_deal (find u o)).row
part_put g u o d e h = ap (λ f. g (seen_deal f).row) (find-put u o d) ∙ part g (find u o) d e h

-- ── What the passed checks say ────────────────────────────────────
pub accept_caller : (m : Model) (now a o : ℕ) → first (accept_checks (offer_in m o) now a (paper_of m o)) ≡ 0 → originator_of m o ≡ a
accept_caller m now a o k =
    let p = passed _ _ _ (passed _ _ _ (passed _ _ _ (passed _ _ _ k).1).1).1 in
    is_id_lem (passed _ _ _ p.1).0

module _ (m : Model) (now a o : ℕ) (t : Terms) (n : ℕ) where
  pub amend_there : first (amends_in m now a o t n) ≡ 0 → (not (offer_in m o).here ≡ false) × (lender_of m o ≡ a)
  amend_there k =
      let p = passed _ _ _ (passed _ _ _ k).1 in
      let q = passed _ _ _ p.1 in
      (q.0, is_id_lem (passed _ _ _ q.1).0)

  pub counter_there : first (counters_in m now a o t n) ≡ 0 → (not (offer_in m o).here ≡ false) × (originator_of m o ≡ a)
  counter_there k =
      let p = passed _ _ _ (passed _ _ _ k).1 in
      let q = passed _ _ _ p.1 in
      let r = passed _ _ _ q.1 in
      (q.0, is_id_lem (passed _ _ _ r.1).0)

  -- the checks of an amendment and of a counter, out of all that passed
  pub amend_first : first (amending m now a o t n).checks ≡ 0 → first (amends_in m now a o t n) ≡ 0
  amend_first h =
      let l = amends_in m now a o t n in
      let r = (reoffer_of (account_in m a).row (terms_in m o) t).checks in
      (both_pass l r (both_pass (l ++ r) (agreeing (agrees_of round_slots (offer_in m o).row.negotiation t) now o (amended_in m now a o t)).checks h).0).0

  pub counter_first : first (countering m now a o t n).checks ≡ 0 → first (counters_in m now a o t n) ≡ 0
  counter_first h = (both_pass (counters_in m now a o t n) (agreeing (same_terms (terms_in m o) t) now o (countered_in m now o t)).checks h).0

-- ── A round leaves the offer's lender and invoice ─────────────────
module _ (m : Model) (now o : ℕ) (t : Terms) (e : not (offer_in m o).here ≡ false) where
  module _ (a : ℕ) (r : Account) where
    pub amend_lender : lender_of (with_lender_round m now a o r t) o ≡ lender_of m o
    unfolding amended_deal
    amend_lender = part_put (λ d. d.offer.lender) m.offers o _ refl e

    pub amend_invoice : (offer_in (with_lender_round m now a o r t) o).row.offer.invoice ≡ (offer_in m o).row.offer.invoice
    unfolding amended_deal
    amend_invoice = part_put (λ d. d.offer.invoice) m.offers o _ refl e

    pub amend_originator : originator_of (with_lender_round m now a o r t) o ≡ originator_of m o
    amend_originator = ap (λ i. (invoice_in m i).row.originator) amend_invoice

  pub counter_lender : lender_of (countered_in m now o t) o ≡ lender_of m o
  unfolding countered_deal
  counter_lender = part_put (λ d. d.offer.lender) m.offers o _ refl e

  pub counter_invoice : (offer_in (countered_in m now o t) o).row.offer.invoice ≡ (offer_in m o).row.offer.invoice
  unfolding countered_deal
  counter_invoice = part_put (λ d. d.offer.invoice) m.offers o _ refl e

  pub counter_originator : originator_of (countered_in m now o t) o ≡ originator_of m o
  counter_originator = ap (λ i. (invoice_in m i).row.originator) counter_invoice
