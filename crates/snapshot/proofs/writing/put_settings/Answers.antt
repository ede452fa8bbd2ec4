use mathlib.Core.Path.{refl}
use Rattle.codec.specs.Puts.{puts_then, puts_via}
use Rattle.snapshot.specs.Layout.{settings, settings_from, settings_parts}
use Rattle.snapshot.proofs.writing.put_settings.Goals as goal

pub returns : goal.returns
unfolding settings
returns c =
    puts_via (settings_from _) settings_parts (λ x _. refl) refl (puts_then c.put-p.ensures (puts_then c.put-q.ensures (puts_then c.put-u.ensures (puts_then c.put-v.ensures (puts_then c.put-w.ensures c.put.ensures)))))
