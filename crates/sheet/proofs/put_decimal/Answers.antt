use Rattle.std.proofs.Common.{◌∙◌}
use Rattle.sheet.specs.SheetLaws.{retext}
use Rattle.sheet.specs.DecimalLaws.{decimal_is}
use Rattle.sheet.proofs.put_decimal.Goals as goal

pub returns : goal.returns
returns c =
    let d = c.decimal-k in
    retext c.put.ensures (d.ensures.digits ∙ decimal_is d.ensures.len)
