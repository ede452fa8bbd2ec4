use mathlib.Core.Path.{refl}
use Rattle.codec.specs.Cursors.{takes_then, takes_via, takes_flag}
use Rattle.snapshot.specs.Layout.{settings, settings_from, settings_parts}
use Rattle.snapshot.proofs.reading.read_settings.Goals as goal

pub returns : goal.returns
unfolding settings
returns c =
    takes_via (settings_from _) settings_parts (λ x _. refl) (takes_then c.next-window.ensures.takes (takes_then c.next-seats.ensures.takes (takes_then c.next-threshold.ensures.takes (takes_then (takes_flag 0x60 c.next-paused.ensures) (takes_then (takes_flag 0x61 c.next-appointed.ensures) c.next-repayer.ensures.takes)))))
