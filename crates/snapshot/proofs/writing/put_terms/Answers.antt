use Rattle.money.specs.Facts.{back}
use borrow.Author.Rules.{rules}
use mathlib.Core.Path.{refl}
use Rattle.codec.specs.Puts.{as_signed, puts_then, puts_via}
use Rattle.snapshot.specs.Layout.{terms, terms_from, terms_parts}
use Rattle.snapshot.proofs.writing.put_terms.Goals as goal

pub returns : goal.returns
unfolding terms
returns c =
    puts_via terms_from terms_parts (λ x _. refl) refl (puts_then (as_signed 0x05 (back c.args.row.amount (search rules)) c.put-p.ensures) (puts_then c.put-q.ensures c.put.ensures))
