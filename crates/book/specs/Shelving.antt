-- A book whose arrays are tables is its model, stored; and a model whose tables fit is the model of what it is stored as
use Rattle.std.specs.Prelude.{◌≡◌}
use Rattle.std.proofs.Common.{sym, ap, ◌∙◌}
use Rattle.settings.specs.declared.Settings.{Settings}
use Rattle.totals.specs.declared.Totals.{Totals}
use Rattle.shelves.specs.declared.Accounts.{Accounts}
use Rattle.shelves.specs.declared.Invoices.{Invoices}
use Rattle.shelves.specs.declared.Offers.{Offers}
use Rattle.shelves.specs.Accounts.{accounts_of, stored_accounts}
use Rattle.shelves.specs.Laws.{accounts_keeping, invoices_keeping}
use Rattle.shelves.specs.OfferLaws.{deals_keeping}
use Rattle.shelves.specs.Invoices.{invoices_of, stored_invoices}
use Rattle.shelves.specs.Offers.{deals_of, stored_deals}
use Rattle.book.specs.declared.Book.{Book}
use Rattle.rules.specs.Model.{Model}
use Rattle.rules.specs.Fitting.{Fits}
use Rattle.book.specs.Stored.{model_of, stored, Shelved}

abbrev book_of : Accounts → Invoices → Offers → Totals → Settings → Book
book_of a i o t s = record { accounts = a; invoices = i; offers = o; totals = t; settings = s }

same_book : {a a' : Accounts} {i i' : Invoices} {o o' : Offers} (t : Totals) (s : Settings) → a ≡ a' → i ≡ i' → o ≡ o' → book_of a i o t s ≡ book_of a' i' o' t s
same_book {a} {a'} {i} {i'} {o} {o'} t s p q r = ap (λ z. book_of z i o t s) p ∙ ap (λ z. book_of a' z o t s) q ∙ ap (λ z. book_of a' i' z t s) r

module _ {b : Book} (k : Shelved b) where
  accounts_back : b.accounts ≡ stored_accounts (accounts_of b.accounts)
  accounts_back = sym (accounts_keeping.kept b.accounts k.accounts)

  invoices_back : b.invoices ≡ stored_invoices (invoices_of b.invoices)
  invoices_back = sym (invoices_keeping.kept b.invoices k.invoices)

  offers_back : b.offers ≡ stored_deals (deals_of b.offers)
  offers_back = sym (deals_keeping.kept b.offers k.offers)

  pub back : b ≡ stored (model_of b)
  back = same_book b.totals b.settings accounts_back invoices_back offers_back

-- ── Tables that fit ───────────────────────────────────────────────
pub fits_of : {b : Book} → Shelved b → Fits (model_of b)
fits_of {b} k = record {
  accounts = accounts_keeping.fine b.accounts k.accounts;
  invoices = invoices_keeping.fine b.invoices k.invoices;
  offers = deals_keeping.fine b.offers k.offers;
}

module _ {m : Model} (f : Fits m) where
  pub shelved_stored : Shelved (stored m)
  shelved_stored = record { accounts = accounts_keeping.good f.accounts; invoices = invoices_keeping.good f.invoices; offers = deals_keeping.good f.offers }

  pub model_stored : model_of (stored m) ≡ m
  model_stored =
      ap (λ z. record { accounts = z; invoices = invoices_of (stored_invoices m.invoices); offers = deals_of (stored_deals m.offers); totals = m.totals; settings = m.settings }) (accounts_keeping.back f.accounts)
      ∙ ap (λ z. record { accounts = m.accounts; invoices = z; offers = deals_of (stored_deals m.offers); totals = m.totals; settings = m.settings }) (invoices_keeping.back f.invoices)
      ∙ ap (λ z. record { accounts = m.accounts; invoices = m.invoices; offers = z; totals = m.totals; settings = m.settings }) (deals_keeping.back f.offers)
