use mathlib.Core.Path.{ap, ◌∙◌}
use Rattle.money.specs.Range.{magnitude_of}
use Rattle.money.specs.Facts.{back}
use Rattle.lines.specs.Lines.{totals_line}
use Rattle.sheet.specs.SheetLaws.{next, retext}
use Rattle.lines.proofs.put_totals.Goals as goal

pub returns : goal.returns
unfolding totals_line
returns c =
    let row = c.args.totals in
    let financed = c.magnitude-financed.ensures ∙ ap magnitude_of (back row.financed c.struct_told-1.given.0.1) in
    let repaid = c.magnitude-repaid.ensures ∙ ap magnitude_of (back row.repaid c.struct_told-2-1.given.1.0.1) in
    let fees = c.magnitude-fees.ensures ∙ ap magnitude_of (back row.fees c.struct_told-3-1.given.1.1.0.1) in
    next c.put-past.ensures (retext c.put_numbers.ensures (cc))
