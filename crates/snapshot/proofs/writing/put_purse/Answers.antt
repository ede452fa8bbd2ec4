use Rattle.money.specs.Facts.{back}
use borrow.Author.Rules.{rules}
use mathlib.Core.Path.{refl}
use Rattle.codec.specs.Puts.{as_signed, puts_then, puts_via}
use Rattle.snapshot.specs.Layout.{purse, purse_from, purse_parts}
use Rattle.snapshot.proofs.writing.put_purse.Goals as goal

pub returns : goal.returns
unfolding purse
returns c =
    puts_via purse_from purse_parts (λ x _. refl) refl (puts_then (as_signed 0x71 (back c.args.row.balance (search rules)) c.put-p.ensures) (puts_then (as_signed 0x72 (back c.args.row.allowance (search rules)) c.put-q.ensures) (puts_then (as_signed 0x73 (back c.args.row.offered (search rules)) c.put-u.ensures) (as_signed 0x74 (back c.args.row.accepted (search rules)) c.put.ensures))))
