use Rattle.money.specs.Facts.{back}
use borrow.Author.Rules.{rules}
use mathlib.Core.Path.{refl}
use Rattle.codec.specs.Puts.{as_signed, puts_then, puts_via}
use Rattle.snapshot.specs.Layout.{offer, offer_from, offer_parts}
use Rattle.snapshot.proofs.writing.put_offer.Goals as goal

pub returns : goal.returns
unfolding offer
returns c =
    puts_via offer_from offer_parts (λ x _. refl) refl (puts_then c.put-p.ensures (puts_then c.put-q.ensures (puts_then c.put_terms-u.ensures (puts_then c.put-v.ensures (puts_then c.put-w.ensures (puts_then c.put-x.ensures (as_signed 0x94 (back c.args.row.repaid (search rules)) c.put.ensures)))))))
