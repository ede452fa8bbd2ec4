-- A row that was looked up: whether it is there, and the row, which is zero where it is not
use Rattle.table.specs.Tables.{Found}
use Rattle.table.specs.Seen.{seen, put_seen}
use Rattle.table.specs.declared.Seen.{Seen}
use Rattle.invoice.specs.Invoice.{no_invoice}
use Rattle.invoice.specs.declared.Invoice.{Invoice}

abbrev pub SeenInvoice : Type 0
SeenInvoice = Seen Invoice

abbrev pub seen_invoice : Found Invoice → SeenInvoice
seen_invoice = seen no_invoice

-- the row made x, where there is one
abbrev pub put_invoice : SeenInvoice → Invoice → SeenInvoice
put_invoice = put_seen
