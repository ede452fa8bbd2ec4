use mathlib.Core.Path.{refl}
use Rattle.codec.specs.Puts.{puts_then, puts_via}
use Rattle.snapshot.specs.Layout.{round, round_from, round_parts}
use Rattle.snapshot.proofs.writing.put_round.Goals as goal

pub returns : goal.returns
unfolding round
returns c =
    puts_via round_from round_parts (λ x _. refl) refl (puts_then c.put-p.ensures (puts_then (rw c.terms.ensures at c.put_terms-q.ensures) c.put.ensures))
