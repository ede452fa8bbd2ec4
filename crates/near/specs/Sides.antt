-- Settlement seen at its keys, and what is seen at keys that are known to be the same
use Rattle.std.specs.Prelude.{ℕ, ◌≡◌, refl, Bool, true, false, not}
use Rattle.std.proofs.Common.{sym, ap, ◌∙◌}
use Rattle.refusal.specs.Choice.{pick}
use Rattle.refusal.specs.Rule.{Rule}
use Rattle.table.specs.Tables.{Table, adjust}
use Rattle.std.specs.Prelude.{Some}
use Rattle.account.specs.declared.Account.{Account}
use Rattle.invoice.specs.Invoice.{financed}
use Rattle.invoice.specs.Seen.{put_invoice}
use Rattle.offer.specs.Offer.{settled_deal}
use Rattle.offer.specs.Seen.{put_deal}
use Rattle.totals.specs.declared.Totals.{Totals}
use Rattle.parties.specs.Settlement.{seen_in}
use Rattle.parties.specs.Parties.{side_of, parties_of}
use Rattle.parties.specs.declared.Parties.{Parties}
use Rattle.terms.specs.declared.Terms.{Terms}
use Rattle.refusal.specs.Refusal.{first}
use Rattle.rules.specs.Model.{Model, account_in, invoice_in, offer_in, paper_of}
use Rattle.rules.specs.Rules.{lender_of, originator_of, with_lender_round, countered_in, amends_in, counters_in}
use Rattle.rules.specs.Agreeing.{amend_there, counter_there, amend_lender, amend_invoice, amend_originator, counter_lender, counter_invoice, counter_originator}
use Rattle.rules.specs.Keys.{Keys, keys_by}
use Rattle.near.specs.declared.Near.{Near}
use Rattle.near.specs.Near.{Turn, view_of, turn_of, deal_keys, sides_of}
use Rattle.near.specs.Steps.{near_by, paper_put, deal_put}

-- ── Keys that are the same ────────────────────────────────────────
module _ (m : Model) {k j : Keys} (e : k ≡ j) where
  pub turn_at : {r : Turn} (u : Rule Model) → r ≡ turn_of k u → r ≡ turn_of j u
  turn_at u h = h ∙ ap (λ z. turn_of z u) e

  pub view_at : {n : Near} → n ≡ view_of k m → n ≡ view_of j m
  view_at h = h ∙ ap (λ z. view_of z m) e

-- an offer seen by its parties, known by other names
pub first_lends : (m : Model) (o a : ℕ) → lender_of m o ≡ a → deal_keys (Some a) (Some (originator_of m o)) m o ≡ sides_of true m o
unfolding pick
first_lends m o a e = ap (λ z. deal_keys (Some z) (Some (originator_of m o)) m o) (sym e)

pub second_lends : (m : Model) (o a : ℕ) → originator_of m o ≡ a → deal_keys (Some a) (Some (lender_of m o)) m o ≡ sides_of false m o
unfolding pick
second_lends m o a e = ap (λ z. deal_keys (Some z) (Some (lender_of m o)) m o) (sym e)

-- ── The two sides ─────────────────────────────────────────────────
pub side_by : (lends : Bool) (a b : ℕ) (t : Table Account) → (side_of (parties_of (pick lends a b) (pick lends b a) t) lends ≡ seen_in t a) × (side_of (parties_of (pick lends a b) (pick lends b a) t) (not lends) ≡ seen_in t b)
unfolding side_of pick
side_by true a b t = (refl, refl)
side_by false a b t = (refl, refl)

-- ── What a settlement leaves ──────────────────────────────────────
module _ (lends : Bool) {n : Near} (m : Model) (o now : ℕ) (e : n ≡ view_of (sides_of lends m o) m) where
  abbrev side1 : ℕ
  side1 = pick lends (lender_of m o) (originator_of m o)

  abbrev side2 : ℕ
  side2 = pick lends (originator_of m o) (lender_of m o)

  -- the accounts are t, the totals y
  abbrev left : Table Account → Totals → Model
  left t y = record {
    accounts = t;
    invoices = adjust m.invoices (offer_in m o).row.offer.invoice (λ old. financed (paper_of m o).row);
    offers = adjust m.offers o (λ old. settled_deal now (offer_in m o).row);
    totals = y;
    settings = m.settings;
  }

  pub settled_view : (t : Table Account) (y : Totals) {p : Parties} → p ≡ parties_of side1 side2 t
      → near_by p (put_invoice n.paper (financed n.paper.row)) (put_deal n.deal (settled_deal now n.deal.row)) y n.settings
      ≡ near_by (parties_of side1 side2 t) (invoice_in (left t y) (offer_in m o).row.offer.invoice) (offer_in (left t y) o) y m.settings
  settled_view t y {p} h =
      ap (λ z. near_by z (put_invoice n.paper (financed n.paper.row)) (put_deal n.deal (settled_deal now n.deal.row)) y n.settings) h
      ∙ ap (λ z. near_by (parties_of side1 side2 t) (put_invoice z.paper (financed z.paper.row)) (put_deal z.deal (settled_deal now z.deal.row)) y z.settings) e
      ∙ ap (λ z. near_by (parties_of side1 side2 t) z (put_deal (offer_in m o) (settled_deal now (offer_in m o).row)) y m.settings) (paper_put m.invoices (offer_in m o).row.offer.invoice (financed (paper_of m o).row))
      ∙ ap (λ z. near_by (parties_of side1 side2 t) (invoice_in (left t y) (offer_in m o).row.offer.invoice) z y m.settings) (deal_put m.offers o (settled_deal now (offer_in m o).row))

-- ── A round leaves the keys ───────────────────────────────────────
keys_by_lem : {a a' b b' i i' : ℕ} (o : ℕ) → a ≡ a' → b ≡ b' → i ≡ i' → keys_by (Some a) (Some b) (Some i) (Some o) ≡ keys_by (Some a') (Some b') (Some i') (Some o)
keys_by_lem {a} {a'} {b} {b'} {i} {i'} o p q r = ap (λ z. keys_by (Some z) (Some b) (Some i) (Some o)) p ∙ ap (λ z. keys_by (Some a') (Some z) (Some i) (Some o)) q ∙ ap (λ z. keys_by (Some a') (Some b') (Some z) (Some o)) r

module _ (m : Model) (now a o : ℕ) (t : Terms) (n : ℕ) where
  pub amend_keys : first (amends_in m now a o t n) ≡ 0 → (r : Account) → deal_keys (Some a) (Some (originator_of m o)) m o ≡ sides_of true (with_lender_round m now a o r t) o
  unfolding pick
  amend_keys h r =
      let e = amend_there m now a o t n h in
      keys_by_lem o (sym (amend_lender m now o t e.0 a r ∙ e.1)) (sym (amend_originator m now o t e.0 a r)) (sym (amend_invoice m now o t e.0 a r))

  pub counter_keys : first (counters_in m now a o t n) ≡ 0 → deal_keys (Some a) (Some (lender_of m o)) m o ≡ sides_of false (countered_in m now o t) o
  unfolding pick
  counter_keys h =
      let e = counter_there m now a o t n h in
      keys_by_lem o (sym (counter_originator m now o t e.0 ∙ e.1)) (sym (counter_lender m now o t e.0)) (sym (counter_invoice m now o t e.0))
