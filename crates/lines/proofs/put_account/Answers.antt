use mathlib.Core.Path.{ap, ◌∙◌}
use Rattle.money.specs.Range.{magnitude_of}
use Rattle.money.specs.Facts.{back}
use Rattle.lines.specs.Lines.{account_line}
use Rattle.sheet.specs.SheetLaws.{next, retext}
use borrow.Author.Rules.{rules}
use Rattle.lines.proofs.put_account.Goals as goal

pub returns : goal.returns
unfolding account_line
returns c =
    let p = c.args.row.purse in
    let balance = c.magnitude-balance.ensures ∙ ap magnitude_of (back p.balance (search rules)) in
    let allowance = c.magnitude-allowance.ensures ∙ ap magnitude_of (back p.allowance (search rules)) in
    let offered = c.magnitude-offered.ensures ∙ ap magnitude_of (back p.offered (search rules)) in
    let accepted = c.magnitude-accepted.ensures ∙ ap magnitude_of (back p.accepted (search rules)) in
    next c.put-past.ensures (retext c.put_numbers.ensures (cc))
