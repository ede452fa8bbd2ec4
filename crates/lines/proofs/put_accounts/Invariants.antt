use Rattle.table.specs.Shelf.{table_of}
use Rattle.sheet.specs.Sheet.{Wrote}
use Rattle.lines.specs.Lines.{account_lines}
use Rattle.lines.proofs.put_accounts.Given as goal

abbrev pub invariant-loop-i : goal.invariant-loop-i
invariant-loop-i l = Wrote l.ink (account_lines (table_of l.ids l.rows l.i)) l.initial.out l.fn.pen l.out l.pen
