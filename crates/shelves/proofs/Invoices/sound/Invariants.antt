use Rattle.table.specs.Test.{row_test}
use Rattle.table.specs.All.{Checked}
use Rattle.invoice.specs.Invoice.{no_invoice, invoice_sound, invoice_zero}
use Rattle.shelves.proofs.Invoices.sound.Given as goal

abbrev pub invariant-loop-i : goal.invariant-loop-i
invariant-loop-i l = Checked 64 (row_test invoice_sound invoice_zero no_invoice l.self.count l.self.rows) l.i l.ok
