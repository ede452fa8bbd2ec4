-- What the types of a table's arrays say
use Rattle.std.specs.Prelude.{ℕ, ◌≡◌, List, length}

pub record Sized {A : Type 0} (ids : List ℕ) (rows : List A) : Type 0 where
  pub ids_long : length ids ≡ 64
  pub rows_long : length rows ≡ 64
