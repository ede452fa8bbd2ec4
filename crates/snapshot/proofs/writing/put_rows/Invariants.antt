use Rattle.table.specs.Shelf.{table_of}
use Rattle.codec.specs.Puts.{Listing}
use Rattle.snapshot.proofs.writing.put_rows.Given as goal

abbrev pub invariant-loop-i : goal.invariant-loop-i
invariant-loop-i g l = Listing g.R.Row.fields l.ink (table_of l.ids l.list l.i) l.initial.out l.initial.p l.out l.p
