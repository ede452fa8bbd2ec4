use Rattle.snapshot.specs.Filling.{FillingTable}
use Rattle.snapshot.proofs.reading.read_rows.Given as goal

abbrev pub invariant-loop-i : goal.invariant-loop-i
invariant-loop-i g l = FillingTable g.R.Row.fields l.fn.none 64 l.s l.initial.d l.i l.ids l.rows l.d
