-- What the tests of the tables say of the rows, and that a table kept in arrays is the table read from them.
use Rattle.std.specs.Prelude.{◌≡◌, true}
use Rattle.std.proofs.Common.{sym}
use Rattle.table.specs.Sound.{All}
use Rattle.table.proofs.ShelfBack.{table_stored, shelf_stored}
use Rattle.table.proofs.ShelfLaws.{kept}
use Rattle.table.proofs.Keeping.{Keeping, shelf_fine}
use Rattle.table.proofs.TestLaws.{shelf_of, rows_of_lem, passes}
use Rattle.account.specs.Account.{no_account, account_sound, account_zero}
use Rattle.account.proofs.Laws.{account_zero_lem, no_account_zero}
use Rattle.invoice.specs.Invoice.{no_invoice, invoice_sound, invoice_zero}
use Rattle.invoice.specs.Laws.{invoice_zero_lem, no_invoice_zero}
use Rattle.shelves.specs.declared.Accounts.{Accounts}
use Rattle.shelves.specs.declared.Invoices.{Invoices}
use Rattle.shelves.specs.Sized.{Sized}
use Rattle.shelves.specs.Accounts.{accounts_of, as_accounts, stored_accounts, AccountShelf, accounts_test}
use Rattle.shelves.specs.Invoices.{invoices_of, as_invoices, stored_invoices, InvoiceShelf, invoices_test}

-- ── Accounts ──────────────────────────────────────────────────────
pub accounts_keeping : Keeping 64 accounts_of stored_accounts AccountShelf
accounts_keeping = record {
  fine = λ a s. shelf_fine s;
  kept = λ a s. sym (kept as_accounts s);
  good = λ {t} f. shelf_stored no_account 64 t f.fits f.rises;
  back = λ {t} f. table_stored no_account 64 t f.fits;
}

module _ (a : Accounts) (l : Sized a.ids a.rows) (t : accounts_test a ≡ true) where
  pub accounts_shelf : AccountShelf a
  unfolding accounts_test
  accounts_shelf = shelf_of account_sound account_zero no_account 64 a.count a.ids a.rows l.ids_long l.rows_long t (λ i h. account_zero_lem _)

  pub accounts_sound : All (λ r. account_sound r ≡ true) (accounts_of a)
  unfolding accounts_test
  accounts_sound = rows_of_lem account_sound account_zero no_account 64 a.count a.ids a.rows l.ids_long l.rows_long t (λ r. account_sound r ≡ true) (λ i h e. e)

pub accounts_pass : (a : Accounts) → AccountShelf a → All (λ r. account_sound r ≡ true) (accounts_of a) → accounts_test a ≡ true
unfolding accounts_test
accounts_pass a s o = passes account_sound account_zero no_account no_account_zero s o

-- ── Invoices ──────────────────────────────────────────────────────
pub invoices_keeping : Keeping 64 invoices_of stored_invoices InvoiceShelf
invoices_keeping = record {
  fine = λ a s. shelf_fine s;
  kept = λ a s. sym (kept as_invoices s);
  good = λ {t} f. shelf_stored no_invoice 64 t f.fits f.rises;
  back = λ {t} f. table_stored no_invoice 64 t f.fits;
}

module _ (a : Invoices) (l : Sized a.ids a.rows) (t : invoices_test a ≡ true) where
  pub invoices_shelf : InvoiceShelf a
  unfolding invoices_test
  invoices_shelf = shelf_of invoice_sound invoice_zero no_invoice 64 a.count a.ids a.rows l.ids_long l.rows_long t (λ i h. invoice_zero_lem _)

  pub invoices_sound : All (λ r. invoice_sound r ≡ true) (invoices_of a)
  unfolding invoices_test
  invoices_sound = rows_of_lem invoice_sound invoice_zero no_invoice 64 a.count a.ids a.rows l.ids_long l.rows_long t (λ r. invoice_sound r ≡ true) (λ i h e. e)

pub invoices_pass : (a : Invoices) → InvoiceShelf a → All (λ r. invoice_sound r ≡ true) (invoices_of a) → invoices_test a ≡ true
unfolding invoices_test
invoices_pass a s o = passes invoice_sound invoice_zero no_invoice no_invoice_zero s o
