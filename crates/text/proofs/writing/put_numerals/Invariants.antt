-- The first i numbers are written.
use Rattle.text.specs.LineLaws.{Numbering}
use Rattle.text.proofs.writing.put_numerals.Given as goal

abbrev pub invariant-loop-i : goal.invariant-loop-i
invariant-loop-i l = Numbering l.ink l.tags l.numbers l.fn.out l.fn.pen l.i l.out l.p
