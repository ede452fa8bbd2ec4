-- A cursor that goes through the fields of a snapshot. Once it has refused it stays as it is, so that what is read by it needs no test on the way.
use Rattle.std.specs.Prelude.{Bool, ◌&&◌, List, ℕ, eqb}
use Rattle.refusal.specs.Choice.{pick}
use Rattle.codec.specs.Codec.{Got, got, no, column_in, count_in}
use Rattle.codec.specs.declared.Cursor.{Cursor}

abbrev pub cursor : ℕ → ℕ → Bool → ℕ → Cursor
cursor code at ok x = record { code = code; at = at; ok = ok; x = x }

-- where a number was read, and where it was refused
unfoldable pub landed : Cursor → Got ℕ → Cursor
landed c (got x n k) = cursor 0 n (c.ok && k) x
landed c (no r p) = cursor r p c.ok 0

-- the next field, as the column reads it
unfoldable pub next_of : List ℕ → Cursor → ℕ → ℕ → Cursor
next_of s c tag top = pick (eqb c.code 0) (landed c (column_in tag top s c.at)) (cursor c.code c.at c.ok 0)

-- the number of a table's rows
unfoldable pub count_of : List ℕ → Cursor → ℕ → ℕ → Cursor
count_of s c tag most = pick (eqb c.code 0) (landed c (count_in tag most s c.at)) (cursor c.code c.at c.ok 0)
