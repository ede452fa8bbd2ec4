-- What each row of a table is.
use mathlib.Core.List.{[], ◌∷◌}
use Rattle.table.specs.Tables.{Table}

module _ {A : Type 0} where
  -- each row passes
  abbrev pub All : (A → Type 0) → Table A → Type 0
  All q [] = Unit {0}
  All q (e ∷ t) = q e.1 × All q t
