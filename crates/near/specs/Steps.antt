-- How a step that changes one row of what it sees answers
use Rattle.table.specs.Seen.{put_seen}
use Rattle.std.specs.Prelude.{ℕ, ◌≡◌, true, Result, Ok, Err}
use Rattle.std.proofs.Math.Path.{refl, ap}
use Rattle.std.proofs.Common.{sym, ◌∙◌}
use Rattle.refusal.specs.declared.Refusal.{Refusal}
use Rattle.refusal.specs.Choice.{pick}
use Rattle.refusal.specs.Rule.{Rule, outcome, on_done}
use Rattle.refusal.specs.Returned.{verdict_on}
use Rattle.table.specs.Tables.{Found, absent, here, Table, find, adjust, insert, fmap}
use Rattle.table.proofs.SameId.{find-put, find_in_lem}
use Rattle.table.specs.Named.{Named}
use Rattle.std.specs.Prelude.{Some}
use Rattle.account.specs.declared.Account as Rows
use Rattle.invoice.specs.Seen.{seen_invoice, put_invoice}
use Rattle.invoice.specs.declared.Invoice as Papers
use Rattle.invoice.specs.Seen.{SeenInvoice}
use Rattle.offer.specs.Seen.{seen_deal, put_deal}
use Rattle.offer.specs.declared.Deal as Deals
use Rattle.offer.specs.Seen.{SeenDeal}
use Rattle.settings.specs.declared.Settings as Sets
use Rattle.totals.specs.declared.Totals as Sums
use Rattle.parties.specs.Parties.{put_first, put_second, let_in, parties_by}
use Rattle.parties.specs.Laws.{first_put, second_put, let_seen}
use Rattle.parties.specs.declared.Parties.{Parties}
use Rattle.rules.specs.Model.{Model, on_account, on_invoice, on_offer, on_totals, on_settings, with_accounts, with_invoices, with_offers, with_totals, with_settings}
use Rattle.rules.specs.Keys.{Keys, keys_by}
use Rattle.near.specs.declared.Near.{Near}
use Rattle.near.specs.Near.{view_of, turn_of}

-- ── A row put anew, or let in, is seen anew ───────────────────────
deal_seen : (f : Found Deals.Deal) (d : Deals.Deal) → put_deal (seen_deal f) d ≡ seen_deal (fmap (λ old. d) f)
unfolding put_seen pick fmap
deal_seen absent d = refl
deal_seen (here r) d = refl

paper_seen : (f : Found Papers.Invoice) (d : Papers.Invoice) → put_invoice (seen_invoice f) d ≡ seen_invoice (fmap (λ old. d) f)
unfolding put_seen pick fmap
paper_seen absent d = refl
paper_seen (here r) d = refl

pub deal_put : (t : Table Deals.Deal) (o : ℕ) (d : Deals.Deal) → put_deal (seen_deal (find t o)) d ≡ seen_deal (find (adjust t o (λ old. d)) o)
deal_put t o d = deal_seen (find t o) d ∙ ap seen_deal (sym (find-put t o d))

pub paper_put : (t : Table Papers.Invoice) (i : ℕ) (d : Papers.Invoice) → put_invoice (seen_invoice (find t i)) d ≡ seen_invoice (find (adjust t i (λ old. d)) i)
paper_put t i d = paper_seen (find t i) d ∙ ap seen_invoice (sym (find-put t i d))

pub deal_in : (t : Table Deals.Deal) (o : ℕ) (d : Deals.Deal) → find t o ≡ absent → record { here = true; row = d } ≡ seen_deal (find (insert t o d) o)
deal_in t o d h = ap seen_deal (sym (find_in_lem t o d h))

pub paper_in : (t : Table Papers.Invoice) (i : ℕ) (d : Papers.Invoice) → find t i ≡ absent → record { here = true; row = d } ≡ seen_invoice (find (insert t i d) i)
paper_in t i d h = ap seen_invoice (sym (find_in_lem t i d h))

-- ── A part of the book: `into` puts it there, `see` sees it ───────
module _ {A B : Type 0} where
  each_done : (f g : A → B) → ((x : A) → f x ≡ g x) → (r : Result A Refusal) → on_done f r ≡ on_done g r
  each_done f g h (Ok x) = ap (λ z. Ok z) (h x)
  each_done f g h (Err e) = refl

module _ {A B C : Type 0} where
  twice_done : (f : A → B) (g : B → C) (r : Result A Refusal) → on_done (λ x. g (f x)) r ≡ on_done g (on_done f r)
  twice_done f g (Ok x) = refl
  twice_done f g (Err e) = refl

pub part_step : {A : Type 0} (k : Keys) (into : A → Model) (u : Rule A) → on_done (λ x. view_of k (into x)) (outcome u) ≡ turn_of k (record { checks = u.checks; done = into u.done })
part_step k into u = twice_done into (view_of k) (outcome u) ∙ ap (on_done (view_of k)) (sym (verdict_on into u.checks u.done))

abbrev pub near_by : Parties → SeenInvoice → SeenDeal → Sums.Totals → Sets.Settings → Near
near_by a i d t s = record { parties = a; paper = i; deal = d; totals = t; settings = s }

-- what is returned of a row's rule u, where `left` is what its row makes of what was seen
module _ {A : Type 0} (k : Keys) (into : A → Model) (left : Near → A → Near) {n : Near} (m : Model) (e : n ≡ view_of k m) (h : (x : A) → left (view_of k m) x ≡ view_of k (into x)) (u : Rule A) where
  pub row_step : {p : Result A Refusal} → p ≡ outcome u → on_done (left n) p ≡ turn_of k (record { checks = u.checks; done = into u.done })
  row_step {p} q =
      ap (λ z. on_done (left z) p) e ∙ ap (on_done (left (view_of k m))) q
      ∙ each_done (left (view_of k m)) (λ x. view_of k (into x)) h (outcome u) ∙ part_step k into u

-- ── One row, the totals or the settings ───────────────────────────
module _ {n : Near} (m : Model) where
  pub first_step : (a : ℕ) (b i o : Named) → n ≡ view_of (keys_by (Some a) b i o) m → (u : Rule Rows.Account) {p : Result Rows.Account Refusal} → p ≡ outcome u
      → on_done (λ x. near_by (put_first n.parties x) n.paper n.deal n.totals n.settings) p ≡ turn_of (keys_by (Some a) b i o) (on_account m a u)
  first_step a b i o e u q = row_step (keys_by (Some a) b i o) (λ x. with_accounts (adjust m.accounts a (λ old. x)) m) (λ z x. near_by (put_first z.parties x) z.paper z.deal z.totals z.settings) m e
      (λ x. let k = keys_by (Some a) b i o in ap (λ z. near_by z (view_of k m).paper (view_of k m).deal m.totals m.settings) (first_put (Some a) b m.accounts x)) u q

  pub second_step : (b : ℕ) (a i o : Named) → n ≡ view_of (keys_by a (Some b) i o) m → (u : Rule Rows.Account) {p : Result Rows.Account Refusal} → p ≡ outcome u
      → on_done (λ x. near_by (put_second n.parties x) n.paper n.deal n.totals n.settings) p ≡ turn_of (keys_by a (Some b) i o) (on_account m b u)
  second_step b a i o e u q = row_step (keys_by a (Some b) i o) (λ x. with_accounts (adjust m.accounts b (λ old. x)) m) (λ z x. near_by (put_second z.parties x) z.paper z.deal z.totals z.settings) m e
      (λ x. let k = keys_by a (Some b) i o in ap (λ z. near_by z (view_of k m).paper (view_of k m).deal m.totals m.settings) (second_put a (Some b) m.accounts x)) u q

  pub paper_step : (i : ℕ) (a b o : Named) → n ≡ view_of (keys_by a b (Some i) o) m → (u : Rule Papers.Invoice) {p : Result Papers.Invoice Refusal} → p ≡ outcome u
      → on_done (λ x. near_by n.parties (put_invoice n.paper x) n.deal n.totals n.settings) p ≡ turn_of (keys_by a b (Some i) o) (on_invoice m i u)
  paper_step i a b o e u q = row_step (keys_by a b (Some i) o) (λ x. with_invoices (adjust m.invoices i (λ old. x)) m) (λ z x. near_by z.parties (put_invoice z.paper x) z.deal z.totals z.settings) m e
      (λ x. let k = keys_by a b (Some i) o in ap (λ z. near_by (view_of k m).parties z (view_of k m).deal m.totals m.settings) (paper_put m.invoices i x)) u q

  pub deal_step : (o : ℕ) (a b i : Named) → n ≡ view_of (keys_by a b i (Some o)) m → (u : Rule Deals.Deal) {p : Result Deals.Deal Refusal} → p ≡ outcome u
      → on_done (λ x. near_by n.parties n.paper (put_deal n.deal x) n.totals n.settings) p ≡ turn_of (keys_by a b i (Some o)) (on_offer m o u)
  deal_step o a b i e u q = row_step (keys_by a b i (Some o)) (λ x. with_offers (adjust m.offers o (λ old. x)) m) (λ z x. near_by z.parties z.paper (put_deal z.deal x) z.totals z.settings) m e
      (λ x. let k = keys_by a b i (Some o) in ap (λ z. near_by (view_of k m).parties (view_of k m).paper z m.totals m.settings) (deal_put m.offers o x)) u q

  module _ (k : Keys) (e : n ≡ view_of k m) where
    pub totals_step : (u : Rule Sums.Totals) {p : Result Sums.Totals Refusal} → p ≡ outcome u → on_done (λ x. near_by n.parties n.paper n.deal x n.settings) p ≡ turn_of k (on_totals m u)
    totals_step u q = row_step k (λ x. with_totals x m) (λ z x. near_by z.parties z.paper z.deal x z.settings) m e (λ x. refl) u q

    pub settings_step : (u : Rule Sets.Settings) {p : Result Sets.Settings Refusal} → p ≡ outcome u → on_done (λ x. near_by n.parties n.paper n.deal n.totals x) p ≡ turn_of k (on_settings m u)
    settings_step u q = row_step k (λ x. with_settings x m) (λ z x. near_by z.parties z.paper z.deal z.totals x) m e (λ x. refl) u q

-- ── A row let in ──────────────────────────────────────────────────
module _ {n : Near} (m : Model) where
  pub opened_step : (a : ℕ) (b i o : Named) → n ≡ view_of (keys_by (Some a) b i o) m → find m.accounts a ≡ absent → (x : Rows.Account)
      → near_by (let_in n.parties x) n.paper n.deal n.totals n.settings ≡ view_of (keys_by (Some a) b i o) (with_accounts (insert m.accounts a x) m)
  opened_step a b i o e h x =
      let k = keys_by (Some a) b i o in
      ap (λ z. near_by (let_in z.parties x) z.paper z.deal z.totals z.settings) e ∙ ap (λ z. near_by z (view_of k m).paper (view_of k m).deal m.totals m.settings) (let_seen a b m.accounts x h)

  pub registered_step : (i : ℕ) (a b o : Named) → n ≡ view_of (keys_by a b (Some i) o) m → find m.invoices i ≡ absent → (x : Papers.Invoice)
      → near_by n.parties (record { here = true; row = x }) n.deal n.totals n.settings ≡ view_of (keys_by a b (Some i) o) (with_invoices (insert m.invoices i x) m)
  registered_step i a b o e h x =
      let k = keys_by a b (Some i) o in
      ap (λ z. near_by z.parties (record { here = true; row = x }) z.deal z.totals z.settings) e ∙ ap (λ z. near_by (view_of k m).parties z (view_of k m).deal m.totals m.settings) (paper_in m.invoices i x h)

  -- the lender's row and the totals too
  pub created_step : (a o : ℕ) (b i : Named) → n ≡ view_of (keys_by (Some a) b i (Some o)) m → find m.offers o ≡ absent → (r : Rows.Account) (d : Deals.Deal) (t : Sums.Totals)
      → near_by (put_first n.parties r) n.paper (record { here = true; row = d }) t n.settings
      ≡ view_of (keys_by (Some a) b i (Some o)) (record { accounts = adjust m.accounts a (λ old. r); invoices = m.invoices; offers = insert m.offers o d; totals = t; settings = m.settings })
  created_step a o b i e h r d t =
      let k = keys_by (Some a) b i (Some o) in
      ap (λ z. near_by (put_first z.parties r) z.paper (record { here = true; row = d }) t z.settings) e
      ∙ ap (λ z. near_by z (view_of k m).paper (record { here = true; row = d }) t m.settings) (first_put (Some a) b m.accounts r)
      ∙ ap (λ z. near_by (parties_by (Some a) b (adjust m.accounts a (λ old. r))) (view_of k m).paper z t m.settings) (deal_in m.offers o d h)

  -- an offer's row, and its lender's, put anew
  pub amended_step : (a o : ℕ) (b i : Named) → n ≡ view_of (keys_by (Some a) b i (Some o)) m → (r : Rows.Account) (d : Deals.Deal)
      → near_by (put_first n.parties r) n.paper (put_deal n.deal d) n.totals n.settings ≡ view_of (keys_by (Some a) b i (Some o)) (with_accounts (adjust m.accounts a (λ old. r)) (with_offers (adjust m.offers o (λ old. d)) m))
  amended_step a o b i e r d =
      let k = keys_by (Some a) b i (Some o) in
      ap (λ z. near_by (put_first z.parties r) z.paper (put_deal z.deal d) z.totals z.settings) e
      ∙ ap (λ z. near_by z (view_of k m).paper (put_deal (view_of k m).deal d) m.totals m.settings) (first_put (Some a) b m.accounts r)
      ∙ ap (λ z. near_by (parties_by (Some a) b (adjust m.accounts a (λ old. r))) (view_of k m).paper z m.totals m.settings) (deal_put m.offers o d)

  pub countered_step : (o : ℕ) (a b i : Named) → n ≡ view_of (keys_by a b i (Some o)) m → (d : Deals.Deal)
      → near_by n.parties n.paper (put_deal n.deal d) n.totals n.settings ≡ view_of (keys_by a b i (Some o)) (with_offers (adjust m.offers o (λ old. d)) m)
  countered_step o a b i e d =
      let k = keys_by a b i (Some o) in
      ap (λ z. near_by z.parties z.paper (put_deal z.deal d) z.totals z.settings) e
      ∙ ap (λ z. near_by (view_of k m).parties (view_of k m).paper z m.totals m.settings) (deal_put m.offers o d)
