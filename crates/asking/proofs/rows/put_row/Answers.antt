use Rattle.sheet.specs.SheetLaws.{next}
use Rattle.asking.specs.Answers.{row_of}
use Rattle.asking.proofs.rows.put_row.Goals as goal

pub returns : goal.returns
unfolding row_of
returns c = next c.put_decimal-p.ensures c.put_numbers.ensures
