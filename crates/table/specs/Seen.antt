-- A row that was looked up: whether it is there, and the row, which is the empty one where it is not. Over any row type.
use Rattle.std.specs.Prelude.{true, false}
use Rattle.refusal.specs.Choice.{pick}
use Rattle.table.specs.Tables.{Found, absent, here}
use Rattle.table.specs.declared.Seen.{Seen}

module _ {A : Type 0} where
  abbrev pub seen : A → Found A → Seen A
  seen empty absent = record { here = false; row = empty }
  seen empty (here r) = record { here = true; row = r }

  -- the row made x, where there is one
  unfoldable pub put_seen : Seen A → A → Seen A
  put_seen s x = record { here = s.here; row = pick s.here x s.row }
