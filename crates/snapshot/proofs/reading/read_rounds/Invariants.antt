use Rattle.snapshot.specs.Layout.{round}
use Rattle.snapshot.specs.Filling.{FillingRounds}
use Rattle.snapshot.proofs.reading.read_rounds.Given as goal

abbrev pub invariant-loop-i : goal.invariant-loop-i
invariant-loop-i l = FillingRounds round l.s l.initial.d l.i l.rows l.d
