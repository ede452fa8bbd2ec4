use mathlib.Core.Path.{refl}
use Rattle.codec.specs.Puts.{puts_then, puts_via}
use Rattle.snapshot.specs.Layout.{account, account_from, account_parts}
use Rattle.snapshot.proofs.writing.put_account.Goals as goal

pub returns : goal.returns
unfolding account
returns c =
    puts_via account_from account_parts (λ x _. refl) refl (puts_then c.put-p.ensures (puts_then c.put_purse-q.ensures (puts_then c.put-u.ensures (puts_then c.put-v.ensures c.put.ensures))))
