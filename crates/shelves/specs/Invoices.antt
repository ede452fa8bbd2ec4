-- The table of invoices: the rows by id that its arrays hold, how a table is stored in them, and the test of a sound one.
use Rattle.std.specs.Prelude.{ℕ, Bool, ◌&&◌, List}
use Rattle.table.specs.Tables.{Table}
use Rattle.table.specs.Shelf.{table_of, shelve, Shelf}
use Rattle.table.specs.Test.{ids_test, rows_test}
use Rattle.invoice.specs.Invoice.{no_invoice, invoice_sound, invoice_zero}
use Rattle.invoice.specs.declared.Invoice.{Invoice}
use Rattle.shelves.specs.declared.Invoices.{Invoices}

abbrev pub invoices_of : Invoices → Table Invoice
invoices_of a = table_of a.ids a.rows a.count

abbrev pub as_invoices : List ℕ → List Invoice → ℕ → Invoices
as_invoices i r c = record { ids = i; rows = r; count = c }

abbrev pub stored_invoices : Table Invoice → Invoices
stored_invoices t = shelve as_invoices no_invoice 64 t

abbrev pub InvoiceShelf : Invoices → Type 0
InvoiceShelf a = Shelf no_invoice 64 a.ids a.rows a.count

-- at most 64 rows, ids that ascend strictly, numbers in range, unused rows zero
unfoldable pub invoices_test : Invoices → Bool
invoices_test a = ids_test 64 a.count a.ids && rows_test invoice_sound invoice_zero no_invoice 64 a.count a.rows
