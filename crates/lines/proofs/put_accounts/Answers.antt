use Rattle.std.proofs.Common.{◌≡◌, length, min, rules, sym, ap, arith}
use Rattle.table.specs.Shelf.{table_of}
use Rattle.account.specs.Account.{no_account}
use Rattle.sheet.specs.SheetLaws.{next, retext, none}
use Rattle.lines.specs.Lines.{account_lines}
use Rattle.lines.proofs.LineLaws.{lines_none, lines_turn, table_least}
use Rattle.lines.proofs.put_accounts.Goals as goal

pub loop-i-init : goal.loop-i-init
loop-i-init c = retext (none _ _ _) (sym (lines_none _ _))

pub loop-i-preserved : goal.loop-i-preserved
loop-i-preserved c =
    let l = c.loop-i in
    retext (next l.invariant c.put_account-pen.ensures) (sym (lines_turn no_account _ _ l.i (omega arith) (omega arith)))

pub returns : goal.returns
returns c =
    let l = c.loop-i in
    let e : l.i ≡ min c.args.n 64 = omega (arith, c.min-i-end.ensures) in
    let h : length c.args.ids ≡ 64 = search rules in
    retext l.invariant (ap account_lines (table_least _ _ l.i _ h e))
