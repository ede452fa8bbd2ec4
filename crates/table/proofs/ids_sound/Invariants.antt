use Rattle.std.specs.Prelude.{◌≡◌, ◌∷◌, get_or}
use Rattle.table.specs.Test.{id_test}
use Rattle.table.specs.All.{Checked}
use Rattle.table.proofs.ids_sound.Given as goal

abbrev pub invariant-loop-i : goal.invariant-loop-i
invariant-loop-i l = (l.prev ≡ get_or (0 ∷ l.ids) l.i 0) × Checked 64 (id_test l.len l.ids) l.i l.ok
