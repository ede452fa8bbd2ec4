-- A table that a number of places can keep.
use Rattle.std.specs.Prelude.{ℕ, ◌≤◌, length}
use Rattle.table.specs.Tables.{Table, keys}
use Rattle.table.specs.Rising.{Rises}

-- a table that n places can keep
pub record Fine {A : Type 0} (n : ℕ) (t : Table A) : Type 0 where
  pub fits : length t ≤ n
  pub rises : Rises (keys t)
