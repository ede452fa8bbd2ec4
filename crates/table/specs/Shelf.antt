-- A table held in two arrays of one size and a count: ids and rows, zeros after them. Over any row type and any size.
use Rattle.std.specs.Prelude.{◌≡◌, List, [], ◌∷◌, ℕ, zero, suc, ◌≤◌, length}
use Rattle.table.specs.Tables.{Table, key, held, keys}
use Rattle.table.specs.Rising.{Rises}
use Rattle.table.specs.Padded.{padded}

module _ {A : Type 0} where
  -- the first n rows with their ids
  unfoldable pub table_of : List ℕ → List A → ℕ → Table A
  table_of [] rows n = []
  table_of (i ∷ ids) [] n = []
  table_of (i ∷ ids) (r ∷ rows) zero = []
  table_of (i ∷ ids) (r ∷ rows) (suc n) = (i, r) ∷ table_of ids rows n

-- the first c in use, the rest zero
pub record Shelf {A : Type 0} (d : A) (n : ℕ) (ids : List ℕ) (rows : List A) (c : ℕ) : Type 0 where
  pub ids_kept : padded 0 key n (table_of ids rows c) ≡ ids
  pub rows-kept : padded d held n (table_of ids rows c) ≡ rows
  pub counted : length (table_of ids rows c) ≡ c
  pub few : c ≤ n
  pub rising : Rises (keys (table_of ids rows c))

-- a struct of the three, made by mk
module _ {A S : Type 0} (mk : List ℕ → List A → ℕ → S) (d : A) (n : ℕ) where
  abbrev pub shelve : Table A → S
  shelve t = mk (padded 0 key n t) (padded d held n t) (length t)
