use Rattle.std.proofs.Common.{refl}
use Rattle.shelves.specs.Invoices.{as_invoices}
use Rattle.snapshot.specs.Filling.{table_done}
use Rattle.snapshot.proofs.reading.read_invoices.Goals as goal

pub returns : goal.returns
returns c = table_done as_invoices c.count-k.ensures refl (rw c.none.ensures at c.read_rows-g.ensures)
