use Rattle.lines.specs.Lines.{mark_line}
use Rattle.sheet.specs.SheetLaws.{next}
use Rattle.lines.proofs.put_mark.Goals as goal

pub returns : goal.returns
unfolding mark_line
returns c = next c.put_decimal-p.ensures c.put_numbers.ensures
