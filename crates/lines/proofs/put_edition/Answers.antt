use Rattle.lines.specs.Lines.{edition_line}
use Rattle.sheet.specs.SheetLaws.{next}
use Rattle.lines.proofs.put_edition.Goals as goal

pub returns : goal.returns
unfolding edition_line
returns c = next c.put-past.ensures c.put_numbers.ensures
