use Rattle.table.specs.Tables.{Table}
use Rattle.invoice.specs.declared.Invoice.{Invoice}
use Rattle.query.specs.Asking.{model_by, Replied}
use Rattle.query.proofs.write.Given as goal

-- whatever the invoices are: no question is about one
abbrev pub invariant-loop-i : goal.invariant-loop-i
invariant-loop-i l = (t : Table Invoice) → Replied l.questions (model_by l.book.accounts t l.book.offers l.book.totals l.book.settings) l.initial.out l.i l.out
