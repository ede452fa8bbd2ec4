-- A turn on rows is the book's own step: the rows that a command names are seen, turned and stored
use Rattle.std.specs.Prelude.{ℕ, ◌≡◌, refl, Bool, List, Result, Ok, Err, eqb}
use Rattle.std.proofs.Common.{sym, ◌∙◌}
use Rattle.std.proofs.Math.Path.{ap}
use Rattle.refusal.specs.declared.Refusal.{Refusal}
use Rattle.refusal.specs.Chain.{after_done}
use Rattle.refusal.specs.ChoiceLaws.{pick_off}
use Rattle.refusal.specs.Refusal.{Check, number, first}
use Rattle.refusal.specs.RefusalLaws.{refusal_not-0}
use Rattle.refusal.specs.Rule.{Rule, after, answered, verdict, outcome, passing, on_done, said}
use Rattle.refusal.specs.Returned.{verdict_on, verdict_done, verdict_first, verdict_refused, outcome_says}
use Rattle.table.specs.Tables.{Found, absent, here, has}
use Rattle.table.specs.Named.{same, find_by}
use Rattle.table.specs.Storing.{Left}
use Rattle.table.specs.Named.{Named}
use Rattle.account.specs.Seen.{seen_account}
use Rattle.account.specs.declared.Account.{Account}
use Rattle.account.specs.Seen.{SeenAccount}
use Rattle.invoice.specs.Seen.{seen_invoice}
use Rattle.invoice.specs.declared.Invoice.{Invoice}
use Rattle.invoice.specs.Seen.{SeenInvoice}
use Rattle.offer.specs.Seen.{seen_deal}
use Rattle.offer.specs.declared.Deal.{Deal}
use Rattle.offer.specs.Seen.{SeenDeal}
use Rattle.settings.specs.declared.Settings.{Settings}
use Rattle.totals.specs.declared.Totals.{Totals}
use Rattle.command.specs.Names.{names_of, paper_key, other_key}
use Rattle.command.specs.declared.Command.{Command}
use Rattle.command.specs.declared.Names.{Names}
use Rattle.shelves.specs.declared.Accounts.{Accounts}
use Rattle.shelves.specs.declared.Invoices.{Invoices}
use Rattle.shelves.specs.declared.Offers.{Offers}
use Rattle.shelves.specs.Accounts.{accounts_of, stored_accounts}
use Rattle.shelves.specs.Invoices.{invoices_of, stored_invoices}
use Rattle.shelves.specs.Offers.{deals_of, stored_deals}
use Rattle.shelves.specs.Seeing.{account_row, invoice_row, deal_row}
use Rattle.rules.specs.Model.{Model, account_by, invoice_by, offer_by}
use Rattle.rules.specs.Rules.{commanded}
use Rattle.rules.specs.Keys.{Keys, keys_by, keys_in, keys_of}
use Rattle.rules.specs.Touching.{touched_accounts, touched_invoices, touched_offers}
use Rattle.near.specs.declared.Counts.{Counts}
use Rattle.near.specs.declared.Near.{Near}
use Rattle.near.specs.Returns.{done_by, refused_by}
use Rattle.near.specs.Near.{Turn, counts_by, view_of, turn_of, counts_of, TurnsBy}
use Rattle.book.specs.declared.Book.{Book}
use Rattle.book.specs.Stored.{model_of, stored, step_of, number_of, Shelved}
use Rattle.book.specs.Shelving.{back, fits_of}

abbrev pub book_by : Accounts → Invoices → Offers → Totals → Settings → Book
book_by a i o t s = record { accounts = a; invoices = i; offers = o; totals = t; settings = s }

-- ── What a call returns of a rule ─────────────────────────────────
module _ {A : Type 0} (old : A) (u : Rule A) where
  after_ok : {x : A} → outcome u ≡ Ok x → after old u ≡ x
  after_ok e = after_done u old (verdict_first u.checks u.done e) ∙ sym (verdict_done u.checks e)

  after_err : {r : Refusal} → outcome u ≡ Err r → after old u ≡ old
  unfolding after
  after_err {r} e = pick_off u.done old (ap (λ n. eqb n 0) (verdict_refused u.checks u.done e) ∙ refusal_not-0 r)

  passed : {x : A} → outcome u ≡ Ok x → Ok tt ≡ passing u.checks
  passed e = sym (verdict_on (λ _. tt) u.checks u.done ∙ ap (on_done (λ _. tt)) e)

  failed : {r : Refusal} → outcome u ≡ Err r → Err r ≡ passing u.checks
  failed e = sym (verdict_on (λ _. tt) u.checks u.done ∙ ap (on_done (λ _. tt)) e)

-- the number of what a rule's checks answer
pub number_first : (ks : List Check) → number_of (passing ks) ≡ first ks
unfolding answered
number_first ks = number_said (passing ks) ∙ outcome_says (λ n x. n) tt (record { checks = ks; done = tt })
  where
    number_said : (r : Result (Unit {0}) Refusal) → number_of r ≡ said (λ n x. n) tt r
    number_said (Ok x) = refl
    number_said (Err e) = refl

-- the answer's number and the book, where a step is told by what it returns and leaves
module _ (b : Book) (c : Command) where
  abbrev ruled : Rule Model
  ruled = commanded (model_of b) c

  pub stepped_by : {n : ℕ} {r : Result (Unit {0}) Refusal} {z : Book} → n ≡ number_of r → r ≡ passing ruled.checks → z ≡ stored (after (model_of b) ruled) → record { answer = n; book = z } ≡ answered step_of (model_of b) ruled
  unfolding answered
  stepped_by {n} {r} {z} en er ez = ap (λ x. record { answer = x; book = z }) (en ∙ ap number_of er ∙ number_first ruled.checks) ∙ ap (λ x. record { answer = first ruled.checks; book = x }) ez

-- ── What is seen ──────────────────────────────────────────────────
abbrev pub near_with : SeenAccount → SeenAccount → Bool → SeenInvoice → SeenDeal → Totals → Settings → Near
near_with p q e w x t s = record { parties = record { first = p; second = q; one = e }; paper = w; deal = x; totals = t; settings = s }

pub record Fetched (b : Book) (c : Command) (k : Keys) (n : Near) : Type 0 where
  pub keys : k ≡ keys_of (model_of b) c
  pub view : n ≡ view_of k (model_of b)

module _ {b : Book} {c : Command} {n : Names} {key other : Named} {x : SeenDeal} {w : SeenInvoice} {p q : SeenAccount} {e : Bool} where
  pub fetched : n ≡ names_of c → x ≡ offer_by (model_of b) n.offer → key ≡ paper_key n.paper x.row.offer.invoice → w ≡ invoice_by (model_of b) key
      → other ≡ other_key n.second x.row.offer.lender w.row.originator → p ≡ account_by (model_of b) n.first → q ≡ account_by (model_of b) other → e ≡ same n.first other
      → Fetched b c (keys_by n.first other key n.offer) (near_with p q e w x b.totals b.settings)
  fetched en ex ek ew eo ep eq ee =
      let m = model_of b in
      let ke : key ≡ paper_key n.paper (offer_by m n.offer).row.offer.invoice = ek ∙ ap (λ z. paper_key n.paper z.row.offer.invoice) ex in
      let we : w ≡ invoice_by m (paper_key n.paper (offer_by m n.offer).row.offer.invoice) = ew ∙ ap (invoice_by m) ke in
      let oe = eo ∙ ap (λ z. other_key n.second z.row.offer.lender w.row.originator) ex ∙ ap (λ z. other_key n.second (offer_by m n.offer).row.offer.lender z.row.originator) we in
      record {
        keys = ap (λ z. keys_by n.first z key n.offer) oe ∙ ap (λ z. keys_by n.first (keys_in m n).second z n.offer) ke ∙ ap (λ z. keys_in m z) en;
        view = ap (λ z. near_with z q e w x b.totals b.settings) ep ∙ ap (λ z. near_with (account_by m n.first) z e w x b.totals b.settings) eq
            ∙ ap (λ z. near_with (account_by m n.first) (account_by m other) z w x b.totals b.settings) ee
            ∙ ap (λ z. near_with (account_by m n.first) (account_by m other) (same n.first other) z x b.totals b.settings) ew
            ∙ ap (λ z. near_with (account_by m n.first) (account_by m other) (same n.first other) (invoice_by m key) z b.totals b.settings) ex;
      }

-- ── What the turn answers ─────────────────────────────────────────
pub counts_by_lem : {b : Book} → Shelved b → counts_by b.accounts.count b.invoices.count b.offers.count ≡ counts_of (model_of b)
counts_by_lem {b} s =
    let n = counts_of (model_of b) in
    ap (λ z. counts_by z b.invoices.count b.offers.count) (sym s.accounts.counted)
    ∙ ap (λ z. counts_by n.accounts z b.offers.count) (sym s.invoices.counted)
    ∙ ap (λ z. counts_by n.accounts n.invoices z) (sym s.offers.shelf.counted)

pub turns : {b : Book} {c : Command} {k : Keys} {n : Near} {f : Counts} {r : Turn} → Shelved b → Fetched b c k n → f ≡ counts_of (model_of b) → TurnsBy n r c f (λ m. commanded m c) → r ≡ turn_of k (commanded (model_of b) c)
turns {b} {c} s f e h = h (model_of b) e (f.view ∙ ap (λ z. view_of z (model_of b)) f.keys) ∙ ap (λ z. turn_of z (commanded (model_of b) c)) (sym f.keys)

-- a turn that is not refused
pub record Turned (b : Book) (c : Command) (k : Keys) (n : Near) : Type 0 where
  pub shelved : Shelved b
  pub keys : k ≡ keys_of (model_of b) c
  pub is : Ok n ≡ turn_of k (commanded (model_of b) c)

-- one that is refused leaves the book
module _ (b : Book) (c : Command) (k : Keys) {e : Refusal} where
  pub refused_answer : Err e ≡ turn_of k (commanded (model_of b) c) → Err e ≡ passing (commanded (model_of b) c).checks
  refused_answer h = failed (model_of b) (commanded (model_of b) c) (refused_by (view_of k) (outcome (commanded (model_of b) c)) h)

  pub refused_book : Shelved b → Err e ≡ turn_of k (commanded (model_of b) c) → b ≡ stored (after (model_of b) (commanded (model_of b) c))
  refused_book s h = back s ∙ ap stored (sym (after_err (model_of b) (commanded (model_of b) c) (refused_by (view_of k) (outcome (commanded (model_of b) c)) h)))

has_account : (f : Found Account) → (seen_account f).here ≡ has f
unfolding has
has_account absent = refl
has_account (here r) = refl

has_invoice : (f : Found Invoice) → (seen_invoice f).here ≡ has f
unfolding has
has_invoice absent = refl
has_invoice (here r) = refl

has_deal : (f : Found Deal) → (seen_deal f).here ≡ has f
unfolding has
has_deal absent = refl
has_deal (here r) = refl

module _ {b : Book} {c : Command} {k : Keys} {n : Near} (e : Turned b c k n) where
  abbrev pub next : Model
  next = after (model_of b) (commanded (model_of b) c)

  seen : n ≡ view_of k next
  seen = let d = done_by (view_of k) (outcome (commanded (model_of b) c)) e.is in d.2 ∙ ap (view_of k) (sym (after_ok (model_of b) (commanded (model_of b) c) d.1))

  pub answer_ok : Ok tt ≡ passing (commanded (model_of b) c).checks
  answer_ok = let d = done_by (view_of k) (outcome (commanded (model_of b) c)) e.is in passed (model_of b) (commanded (model_of b) c) d.1

  -- what is left of each table, where `was` says whether the row was there
  pub accounts_left : {was : Bool} → was ≡ has (find_by (accounts_of b.accounts) k.first)
      → Left 64 account_row (accounts_of b.accounts) next.accounts k.first k.second was n.parties.first.here n.parties.first.row n.parties.second.row
  accounts_left q = record {
    touched = rw e.keys (touched_accounts (model_of b) c);
    fine = (fits_of e.shelved).accounts;
    before = q;
    after = ap (λ z. z.parties.first.here) seen ∙ has_account (find_by next.accounts k.first);
    first = ap (λ z. z.parties.first.row) seen;
    second = ap (λ z. z.parties.second.row) seen;
  }

  pub invoices_left : {was : Bool} → was ≡ has (find_by (invoices_of b.invoices) k.paper)
      → Left 64 invoice_row (invoices_of b.invoices) next.invoices k.paper k.paper was n.paper.here n.paper.row n.paper.row
  invoices_left q = record {
    touched = rw e.keys (touched_invoices (model_of b) c);
    fine = (fits_of e.shelved).invoices;
    before = q;
    after = ap (λ z. z.paper.here) seen ∙ has_invoice (find_by next.invoices k.paper);
    first = ap (λ z. z.paper.row) seen;
    second = ap (λ z. z.paper.row) seen;
  }

  pub offers_left : {was : Bool} → was ≡ has (find_by (deals_of b.offers) k.deal)
      → Left 64 deal_row (deals_of b.offers) next.offers k.deal k.deal was n.deal.here n.deal.row n.deal.row
  offers_left q = record {
    touched = rw e.keys (touched_offers (model_of b) c);
    fine = (fits_of e.shelved).offers;
    before = q;
    after = ap (λ z. z.deal.here) seen ∙ has_deal (find_by next.offers k.deal);
    first = ap (λ z. z.deal.row) seen;
    second = ap (λ z. z.deal.row) seen;
  }

  -- all three stored: the book that the step leaves
  pub steps : {a : Accounts} {i : Invoices} {o : Offers} → a ≡ stored_accounts next.accounts → i ≡ stored_invoices next.invoices → o ≡ stored_deals next.offers
      → book_by a i o n.totals n.settings ≡ stored next
  steps {a} {i} {o} ea ei eo =
      ap (λ z. book_by z i o n.totals n.settings) ea
      ∙ ap (λ z. book_by (stored_accounts next.accounts) z o n.totals n.settings) ei
      ∙ ap (λ z. book_by (stored_accounts next.accounts) (stored_invoices next.invoices) z n.totals n.settings) eo
      ∙ ap (λ z. book_by (stored_accounts next.accounts) (stored_invoices next.invoices) (stored_deals next.offers) z.totals z.settings) seen
