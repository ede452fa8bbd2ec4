-- A table whose rows change at two keys at most, or that lets a row in at the first. Over any row type and size.
use Rattle.std.specs.Prelude.{ℕ, ◌≡◌, false}
use Rattle.table.specs.Tables.{Table, find, insert, keys, has, Room}
use Rattle.table.specs.Rising.{Rises}
use Rattle.table.specs.Named.{is_id}
use Rattle.table.specs.Named.{Named}
use Rattle.std.specs.Prelude.{Some}

-- u has t's ids, and t's rows but at a and b
pub record Puts {A : Type 0} (t u : Table A) (a b : Named) : Type 0 where
  pub rises : Rises (keys t) → Rises (keys u)
  pub same : (i : ℕ) → has (find u i) ≡ has (find t i)
  pub elsewhere : (i : ℕ) → is_id a i ≡ false → is_id b i ≡ false → find t i ≡ find u i

pub data Touched {A : Type 0} (n : ℕ) (t u : Table A) (a b : Named) : Type 0 where
  put : Puts t u a b → Touched n t u a b
  let_in_lem : (i : ℕ) (d : A) → a ≡ Some i → Room n t i → u ≡ insert t i d → Touched n t u a b
