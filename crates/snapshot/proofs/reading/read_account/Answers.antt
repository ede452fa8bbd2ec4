use mathlib.Core.Path.{refl}
use Rattle.codec.specs.Cursors.{takes_then, takes_via, takes_flag}
use Rattle.snapshot.specs.Layout.{account, account_from, account_parts}
use Rattle.snapshot.proofs.reading.read_account.Goals as goal

pub returns : goal.returns
unfolding account
returns c =
    takes_via account_from account_parts (λ x _. refl) (takes_then c.next-id.ensures.takes (takes_then c.read_purse-p.ensures (takes_then c.next-pending.ensures.takes (takes_then c.next-repaid.ensures.takes (takes_flag 0x77 c.next-blacklisted.ensures)))))
