use Rattle.lines.specs.Lines.{answer_line}
use Rattle.sheet.specs.SheetLaws.{next}
use Rattle.lines.proofs.put_answer.Goals as goal

pub returns : goal.returns
unfolding answer_line
returns c = next c.put_decimal-p.ensures c.put_numbers.ensures
