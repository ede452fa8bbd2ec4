use Rattle.std.proofs.Common.{◌∙◌}
use Rattle.sheet.specs.SheetLaws.{retext}
use Rattle.text.specs.RecordLaws.{header_laid}
use Rattle.text.proofs.put_header.Goals as goal

pub returns : goal.returns
returns c = retext c.put.ensures (c.write_header.ensures.1 ∙ header_laid c.args.edition)
