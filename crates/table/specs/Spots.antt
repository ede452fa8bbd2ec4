-- The spot of a row in a table's arrays: its place, 0 where it has none, and the place at which it would be let in
use Rattle.std.specs.Prelude.{ℕ, Bool, true, false, List}
use Rattle.table.specs.Tables.{Found, absent, here}
use Rattle.table.specs.Named.{Named}
use Rattle.std.specs.Prelude.{None, Some}
use Rattle.std.specs.Prelude.{Result}
use Rattle.std.specs.Prelude.{Ok, Err}
use Rattle.table.specs.declared.Spot.{Spot}
use Rattle.table.specs.Find.{find_in}

abbrev pub spot_of : Result ℕ ℕ → Spot
spot_of (Ok k) = record { here = true; at = k; slot = k }
spot_of (Err k) = record { here = false; at = 0; slot = k }

abbrev pub spot_by : List ℕ → Named → Spot
spot_by ids None = record { here = false; at = 0; slot = 0 }
spot_by ids (Some i) = spot_of (find_in ids i)

-- what a table has where a spot reads r
unfoldable pub at_spot : {A : Type 0} → Bool → A → Found A
at_spot true r = here r
at_spot false r = absent
