-- What every command touches: of accounts the rows at its two keys at most, of invoices and offers the row at one, or it lets one in at its first
use Rattle.std.specs.Prelude.{ℕ, ◌≡◌, Bool, eqb}
use Rattle.std.proofs.Math.Path.{refl}
use Rattle.std.proofs.Common.{sym, subst, ◌∙◌, eqb-true}
use Rattle.std.proofs.Math.Bool.{true, false}
use Rattle.refusal.specs.Choice.{pick}
use Rattle.refusal.specs.Refusal.{first}
use Rattle.refusal.specs.Rule.{after}
use Rattle.refusal.specs.RuleLaws.{both_pass}
use Rattle.table.specs.Tables.{Table}
use Rattle.table.specs.Touching.{Puts, Touched, put, let_in_lem}
use Rattle.table.proofs.Touching.{untouched, at_first, at_second, puts_none, puts_first, puts_second, puts_swap}
use Rattle.std.specs.Prelude.{Some}
use Rattle.account.specs.Rules.{reoffer_of}
use Rattle.account.specs.declared.Account as Row
use Rattle.invoice.specs.declared.Invoice.{Invoice}
use Rattle.offer.specs.declared.Deal.{Deal}
use Rattle.offer.specs.Rules.{accept_checks}
use Rattle.terms.specs.declared.Terms.{Terms}
use Rattle.command.specs.Shape.{OnAccount, deposits, pays, approves, lender_repaid, blacklists, OnOffer, withdraws, rejects, closes, schedules, marks, repaid, Shape, opens, account, registers, cancels, creates, offer, accepts, amends, counters, totals, settings, shape_of}
use Rattle.command.specs.Names.{account_names, offer_names, names_for}
use Rattle.command.specs.declared.Command.{Command}
use Rattle.rules.specs.Model.{Model, account_in, offer_in, paper_of}
use Rattle.rules.specs.Rules.{gate_checks, settling, concluding, agreeing, amending, countering, amended_in, countered_in, lender_of, originator_of, terms_in, account_rule, ruled, commanded}
use Rattle.rules.specs.Keys.{keys_in, keys_of}
use Rattle.rules.specs.Rooms.{open_room, register_room, offer_room}
use Rattle.rules.specs.Agreeing.{accept_caller, amend_there, amend_first, counter_there, counter_first, amend_lender, amend_invoice, amend_originator, counter_lender, counter_invoice, counter_originator}

-- ── Settlement ────────────────────────────────────────────────────
module _ (m : Model) (now o : ℕ) {t : Table Row.Account} where
  settle_puts : Puts t m.accounts (Some (lender_of m o)) (Some (originator_of m o)) → Puts t (settling now o m).done.accounts (Some (lender_of m o)) (Some (originator_of m o))
  unfolding settling
  settle_puts p = puts_first (puts_second (puts_first p _) _) _

  settle_at : {a b : ℕ} → lender_of m o ≡ a → originator_of m o ≡ b → Puts t m.accounts (Some a) (Some b) → Puts t (settling now o m).done.accounts (Some a) (Some b)
  settle_at {a} {b} x y p =
      subst (λ z. Puts t (settling now o m).done.accounts (Some z) (Some b)) x
      (subst (λ z. Puts t (settling now o m).done.accounts (Some (lender_of m o)) (Some z)) y
      (settle_puts (subst (λ z. Puts t m.accounts (Some z) (Some (originator_of m o))) (sym x) (subst (λ z. Puts t m.accounts (Some a) (Some z)) (sym y) p))))

  agree_at : (g : Bool) {a b : ℕ} → lender_of m o ≡ a → originator_of m o ≡ b → Puts t m.accounts (Some a) (Some b) → Puts t (agreeing g now o m).done.accounts (Some a) (Some b)
  unfolding agreeing concluding pick
  agree_at true x y p = settle_at x y p
  agree_at false x y p = p

agree_paper : (g : Bool) (m : Model) (now o : ℕ) {t : Table Invoice} {i : ℕ} → (offer_in m o).row.offer.invoice ≡ i → m.invoices ≡ t → Puts t (agreeing g now o m).done.invoices (Some i) (Some i)
unfolding agreeing concluding settling pick
agree_paper true m now o {t} {i} x e = subst (λ z. Puts t (settling now o m).done.invoices (Some z) (Some z)) x (subst (λ z. Puts z (settling now o m).done.invoices (Some (offer_in m o).row.offer.invoice) (Some (offer_in m o).row.offer.invoice)) e (puts_first (puts_none _ _) _))
agree_paper false m now o {t} {i} x e = subst (λ z. Puts z m.invoices (Some i) (Some i)) e (puts_none (Some i) (Some i))

agree_deal : (g : Bool) (m : Model) (now o : ℕ) {t : Table Deal} → Puts t m.offers (Some o) (Some o) → Puts t (agreeing g now o m).done.offers (Some o) (Some o)
unfolding agreeing concluding settling pick
agree_deal true m now o p = puts_first p _
agree_deal false m now o p = p

module _ (m : Model) (now a o : ℕ) (t : Terms) (n : ℕ) where
  -- the lender's row, its offered total moved
  abbrev row : Row.Account
  row = (reoffer_of (account_in m a).row (terms_in m o) t).done

  amend_accounts : first (amending m now a o t n).checks ≡ 0 → Touched 64 m.accounts (amending m now a o t n).done.accounts (Some a) (Some (originator_of m o))
  amend_accounts h =
      let e = amend_there m now a o t n (amend_first m now a o t n h) in
      put (agree_at (amended_in m now a o t) now o _ (amend_lender m now o t e.0 a row ∙ e.1) (amend_originator m now o t e.0 a row) (puts_first (puts_none (Some a) (Some (originator_of m o))) _))

  counter_accounts : first (countering m now a o t n).checks ≡ 0 → Touched 64 m.accounts (countering m now a o t n).done.accounts (Some a) (Some (lender_of m o))
  counter_accounts h =
      let e = counter_there m now a o t n (counter_first m now a o t n h) in
      put (puts_swap (agree_at (countered_in m now o t) now o _ (counter_lender m now o t e.0) (counter_originator m now o t e.0 ∙ e.1) (puts_none (Some (lender_of m o)) (Some a))))

  amend_paper : first (amending m now a o t n).checks ≡ 0 → Touched 64 m.invoices (amending m now a o t n).done.invoices (Some (offer_in m o).row.offer.invoice) (Some (offer_in m o).row.offer.invoice)
  amend_paper h = put (agree_paper _ (amended_in m now a o t) now o (amend_invoice m now o t (amend_there m now a o t n (amend_first m now a o t n h)).0 a row) refl)

  counter_paper : first (countering m now a o t n).checks ≡ 0 → Touched 64 m.invoices (countering m now a o t n).done.invoices (Some (offer_in m o).row.offer.invoice) (Some (offer_in m o).row.offer.invoice)
  counter_paper h = put (agree_paper _ (countered_in m now o t) now o (counter_invoice m now o t (counter_there m now a o t n (counter_first m now a o t n h)).0) refl)

-- ── The rules, by their shapes ────────────────────────────────────
touch_account : (m : Model) (a : ℕ) (u : OnAccount) → Touched 64 m.accounts (ruled m (account a u)).done.accounts (keys_in m (account_names a u)).first (keys_in m (account_names a u)).second
unfolding ruled account_names account_rule
touch_account m a (deposits x) = at_first _
touch_account m a (pays x) = at_first _
touch_account m a (approves x) = at_first _
touch_account m a (lender_repaid b f) = at_second _
touch_account m a (blacklists p c) = at_first _

touch_offer : (m : Model) (o : ℕ) (u : OnOffer) → Touched 64 m.offers (ruled m (offer o u)).done.offers (keys_in m (offer_names o u)).deal (keys_in m (offer_names o u)).deal
unfolding ruled offer_names
touch_offer m o (withdraws a) = at_first _
touch_offer m o (rejects a) = at_first _
touch_offer m o (closes now a) = at_first _
touch_offer m o (schedules now a n c d k) = at_first _
touch_offer m o (marks a c) = at_first _
touch_offer m o (repaid a x) = at_first _

ruled_accounts : (m : Model) (c : Shape) → first (ruled m c).checks ≡ 0 → Touched 64 m.accounts (ruled m c).done.accounts (keys_in m (names_for c)).first (keys_in m (names_for c)).second
unfolding ruled names_for settling
ruled_accounts m (opens a) h = let_in_lem a _ refl (open_room m a h) refl
ruled_accounts m (account a u) h = touch_account m a u
ruled_accounts m (registers a i x) h = untouched
ruled_accounts m (cancels a i) h = untouched
ruled_accounts m (creates a o i t e) h = at_first _
ruled_accounts m (offer o u) h = untouched
ruled_accounts m (accepts now a o) h = put (puts_swap (settle_at m now o refl (accept_caller m now a o (both_pass (accept_checks (offer_in m o) now a (paper_of m o)) (settling now o m).checks h).0) (puts_none (Some (lender_of m o)) (Some a))))
ruled_accounts m (amends now a o t n) h = amend_accounts m now a o t n h
ruled_accounts m (counters now a o t n) h = counter_accounts m now a o t n h
ruled_accounts m (totals a x f) h = untouched
ruled_accounts m (settings u) h = untouched

ruled_invoices : (m : Model) (c : Shape) → first (ruled m c).checks ≡ 0 → Touched 64 m.invoices (ruled m c).done.invoices (keys_in m (names_for c)).paper (keys_in m (names_for c)).paper
unfolding ruled names_for settling
ruled_invoices m (opens a) h = untouched
ruled_invoices m (account a u) h = untouched
ruled_invoices m (registers a i x) h = let_in_lem i _ refl (register_room m a i x h) refl
ruled_invoices m (cancels a i) h = at_first _
ruled_invoices m (creates a o i t e) h = untouched
ruled_invoices m (offer o u) h = untouched
ruled_invoices m (accepts now a o) h = at_first _
ruled_invoices m (amends now a o t n) h = amend_paper m now a o t n h
ruled_invoices m (counters now a o t n) h = counter_paper m now a o t n h
ruled_invoices m (totals a x f) h = untouched
ruled_invoices m (settings u) h = untouched

ruled_offers : (m : Model) (c : Shape) → first (ruled m c).checks ≡ 0 → Touched 64 m.offers (ruled m c).done.offers (keys_in m (names_for c)).deal (keys_in m (names_for c)).deal
unfolding ruled names_for settling
ruled_offers m (opens a) h = untouched
ruled_offers m (account a u) h = untouched
ruled_offers m (registers a i x) h = untouched
ruled_offers m (cancels a i) h = untouched
ruled_offers m (creates a o i t e) h = let_in_lem o _ refl (offer_room m a o i t e h) refl
ruled_offers m (offer o u) h = touch_offer m o u
ruled_offers m (accepts now a o) h = at_first _
ruled_offers m (amends now a o t n) h = put (agree_deal _ (amended_in m now a o t) now o (puts_first (puts_none (Some o) (Some o)) _))
ruled_offers m (counters now a o t n) h = put (agree_deal _ (countered_in m now o t) now o (puts_first (puts_none (Some o) (Some o)) _))
ruled_offers m (totals a x f) h = untouched
ruled_offers m (settings u) h = untouched

-- ── Accepted or refused ───────────────────────────────────────────
module _ (m : Model) (c : Command) (P : Model → Type 0) (nothing : P m) (done : first (ruled m (shape_of c)).checks ≡ 0 → P (ruled m (shape_of c)).done) where
  by : (b : Bool) → eqb (first (commanded m c).checks) 0 ≡ b → P (pick b (commanded m c).done m)
  unfolding pick
  by true e = done (both_pass (gate_checks m (shape_of c)) (ruled m (shape_of c)).checks (eqb-true _ 0 e)).1
  by false e = nothing

  pub either_way : P (after m (commanded m c))
  unfolding after
  either_way = by (eqb (first (commanded m c).checks) 0) refl

module _ (m : Model) (c : Command) where
  pub touched_accounts : Touched 64 m.accounts (after m (commanded m c)).accounts (keys_of m c).first (keys_of m c).second
  touched_accounts = either_way m c (λ n. Touched 64 m.accounts n.accounts (keys_of m c).first (keys_of m c).second) untouched (ruled_accounts m (shape_of c))

  pub touched_invoices : Touched 64 m.invoices (after m (commanded m c)).invoices (keys_of m c).paper (keys_of m c).paper
  touched_invoices = either_way m c (λ n. Touched 64 m.invoices n.invoices (keys_of m c).paper (keys_of m c).paper) untouched (ruled_invoices m (shape_of c))

  pub touched_offers : Touched 64 m.offers (after m (commanded m c)).offers (keys_of m c).deal (keys_of m c).deal
  touched_offers = either_way m c (λ n. Touched 64 m.offers n.offers (keys_of m c).deal (keys_of m c).deal) untouched (ruled_offers m (shape_of c))
