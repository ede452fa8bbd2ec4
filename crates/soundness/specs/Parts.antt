-- Rows put anew and settlement leave a sound model sound
use Rattle.std.specs.Prelude.{ℕ, ◌≡◌, Bool}
use Rattle.std.proofs.Math.Path.{refl}
use Rattle.std.proofs.Math.Bool.{true, false}
use Rattle.refusal.specs.Choice.{pick}
use Rattle.refusal.specs.Refusal.{first}
use Rattle.refusal.specs.Rule.{Rule}
use Rattle.refusal.specs.RuleLaws.{KeepsTest, passed, both_pass}
use Rattle.table.specs.Tables.{Table, find, adjust}
use Rattle.table.specs.Sound.{All}
use Rattle.terms.specs.declared.Terms.{Terms}
use Rattle.account.specs.Account.{account_sound}
use Rattle.account.specs.declared.Account.{Account}
use Rattle.account.specs.Rules.{debit_of, credit_of, accept_of}
use Rattle.account.proofs.Laws as Account
use Rattle.invoice.specs.Invoice.{invoice_sound}
use Rattle.invoice.specs.declared.Invoice.{Invoice}
use Rattle.invoice.specs.Laws as Invoice
use Rattle.offer.specs.declared.Deal.{Deal}
use Rattle.offer.specs.Rules.{agreement_checks}
use Rattle.offer.specs.Laws.{DealKept}
use Rattle.offer.specs.Kept as Deal
use Rattle.settings.specs.declared.Settings.{Settings}
use Rattle.totals.specs.declared.Totals.{Totals}
use Rattle.settings.specs.Settings.{settings_sound}
use Rattle.totals.specs.Totals.{totals_sound}
use Rattle.settings.specs.Laws as Settings
use Rattle.totals.specs.Laws as Totals
use Rattle.parties.specs.Settlement.{seen_in, on_row, settle_accounts}
use Rattle.account.specs.Seen.{seen_account}
use Rattle.invoice.specs.Seen.{seen_invoice}
use Rattle.offer.specs.Seen.{seen_deal}
use Rattle.rules.specs.Model.{Model, with_accounts, with_invoices, with_offers, with_totals, with_settings, account_in, offer_in, paper_of}
use Rattle.rules.specs.Rules.{settling, concluding, agreeing, terms_in, lender_of, originator_of}
use Rattle.rules.specs.Fitting.{Fits, fits_settled}
use Rattle.soundness.specs.Sound.{ModelSound, put_sound}

abbrev pub Good : Table Account → Type 0
Good t = All (λ r. account_sound r ≡ true) t

-- ── Rows put anew, in each table ──────────────────────────────────
pub account_put : (t : Table Account) (a : ℕ) (x : Account) → Good t → (account_sound (seen_account (find t a)).row ≡ true → account_sound x ≡ true) → Good (adjust t a (λ old. x))
account_put t a x = put_sound (λ r. account_sound r ≡ true) (λ o. (seen_account o).row) (λ r. refl) t a x

pub invoice_put : (t : Table Invoice) (i : ℕ) (x : Invoice) → All (λ r. invoice_sound r ≡ true) t → (invoice_sound (seen_invoice (find t i)).row ≡ true → invoice_sound x ≡ true)
    → All (λ r. invoice_sound r ≡ true) (adjust t i (λ old. x))
invoice_put t i x = put_sound (λ r. invoice_sound r ≡ true) (λ o. (seen_invoice o).row) (λ r. refl) t i x

pub deal_put : {e : ℕ} (t : Table Deal) (o : ℕ) (x : Deal) → All (DealKept e) t → (DealKept e (seen_deal (find t o)).row → DealKept e x) → All (DealKept e) (adjust t o (λ old. x))
deal_put {e} t o x = put_sound (DealKept e) (λ o. (seen_deal o).row) (λ r. refl) t o x

on_row_lem : (a : ℕ) (f : Account → Rule Account) (t : Table Account) → ((r : Account) → KeepsTest account_sound r (f r)) → Good t → first (on_row a f t).checks ≡ 0 → Good (on_row a f t).done
on_row_lem a f t k g e = account_put t a (f (seen_in t a).row).done g (λ s. k (seen_in t a).row s (passed _ _ _ e).1)

-- settlement's transfer
moved_sound : (t : Table Account) (lender originator : ℕ) (x : Terms) → Good t → first (settle_accounts t lender originator x).checks ≡ 0 → Good (settle_accounts t lender originator x).done
moved_sound t lender originator x g e =
    let u = (on_row lender (λ r. debit_of r x) t).done in
    let v = (on_row originator (λ r. credit_of r x) u).done in
    let p = both_pass (on_row lender (λ r. debit_of r x) t).checks _ e in
    let q = both_pass (on_row originator (λ r. credit_of r x) u).checks _ p.1 in
    on_row_lem lender (λ r. accept_of r x) v (λ r. Account.accept_keeps r x)
    (on_row_lem originator (λ r. credit_of r x) u (λ r. Account.credit_keeps r x)
    (on_row_lem lender (λ r. debit_of r x) t (λ r. Account.debit_keeps r x) g p.0)
    q.0)
    q.1

module _ {m : Model} (s : ModelSound m) where
  pub settled_sound : (now o : ℕ) → first (settling now o m).checks ≡ 0 → ModelSound (settling now o m).done
  unfolding settling
  settled_sound now o e =
      let p = both_pass (settle_accounts m.accounts (lender_of m o) (originator_of m o) (terms_in m o)).checks _ e in
      record {
        fits = fits_settled s.fits now o;
        accounts = moved_sound m.accounts (lender_of m o) (originator_of m o) (terms_in m o) s.accounts p.0;
        invoices = invoice_put m.invoices _ _ s.invoices (λ z. Invoice.status_sound 1 (paper_of m o).row refl z);
        offers = deal_put m.offers o _ s.offers (λ z. Deal.settled_kept now (offer_in m o).row z);
        totals = Totals.finance_keeps m.totals (terms_in m o) s.totals p.1;
        settings = s.settings;
      }

  concluded_sound : (now o : ℕ) → first (concluding now o m).checks ≡ 0 → ModelSound (concluding now o m).done
  unfolding concluding
  concluded_sound now o e =
      settled_sound now o (both_pass (agreement_checks (offer_in m o).row now (paper_of m o) (account_in m (lender_of m o)) (account_in m (originator_of m o))) (settling now o m).checks e).1

  pub agreed_sound : (agreed : Bool) (now o : ℕ) → first (agreeing agreed now o m).checks ≡ 0 → ModelSound (agreeing agreed now o m).done
  unfolding agreeing pick
  agreed_sound true now o e = concluded_sound now o e
  agreed_sound false now o e = s

  -- a part put anew
  pub with_accounts_lem : (t : Table Account) → Good t → Fits (with_accounts t m) → ModelSound (with_accounts t m)
  with_accounts_lem t g f = record { fits = f; accounts = g; invoices = s.invoices; offers = s.offers; totals = s.totals; settings = s.settings }

  pub with_invoices_lem : (t : Table Invoice) → All (λ r. invoice_sound r ≡ true) t → Fits (with_invoices t m) → ModelSound (with_invoices t m)
  with_invoices_lem t g f = record { fits = f; accounts = s.accounts; invoices = g; offers = s.offers; totals = s.totals; settings = s.settings }

  pub with_offers_lem : (t : Table Deal) → All (DealKept m.settings.edition) t → Fits (with_offers t m) → ModelSound (with_offers t m)
  with_offers_lem t g f = record { fits = f; accounts = s.accounts; invoices = s.invoices; offers = g; totals = s.totals; settings = s.settings }

  pub with_totals_lem : (t : Totals) → totals_sound t ≡ true → ModelSound (with_totals t m)
  with_totals_lem t g = record { fits = record { accounts = s.fits.accounts; invoices = s.fits.invoices; offers = s.fits.offers }; accounts = s.accounts; invoices = s.invoices; offers = s.offers; totals = g; settings = s.settings }

  -- no setting that is put anew is of another edition
  pub with_settings_lem : (t : Settings) → settings_sound t ≡ true → t.edition ≡ m.settings.edition → ModelSound (with_settings t m)
  with_settings_lem t g e = record { fits = record { accounts = s.fits.accounts; invoices = s.fits.invoices; offers = s.fits.offers }; accounts = s.accounts; invoices = s.invoices; offers = rw e s.offers; totals = s.totals; settings = g }
