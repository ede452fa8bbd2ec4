-- What a turn leaves of one table. Over any row type.
use Rattle.std.specs.Prelude.{ℕ, ◌≡◌, Bool}
use Rattle.table.specs.Tables.{Found, Table, has}
use Rattle.table.specs.Keeping.{Fine}
use Rattle.table.specs.Named.{find_by}
use Rattle.table.specs.Touching.{Touched}
use Rattle.table.specs.Named.{Named}

-- what a turn saw at a and b of t, and what it left: x at a, y at b, where u is the table after it
pub record Left {A : Type 0} (n : ℕ) (g : Found A → A) (t u : Table A) (a b : Named) (was is : Bool) (x y : A) : Type 0 where
  pub touched : Touched n t u a b
  pub fine : Fine n t
  pub before : was ≡ has (find_by t a)
  pub after : is ≡ has (find_by u a)
  pub first : x ≡ g (find_by u a)
  pub second : y ≡ g (find_by u b)
