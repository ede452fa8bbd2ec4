-- A row by the id that is named, if one is: what is found and put there. Over any row type.
use Rattle.std.specs.Prelude.{ℕ, Bool, false, eqb, Option}
use Rattle.table.specs.Tables.{Found, absent, Table, find, adjust}
use Rattle.std.specs.Prelude.{None, Some}

-- the id of a row, where one is named
abbrev pub Named : Type 0
Named = Option ℕ

abbrev pub id_of : Named → ℕ
id_of None = 0
id_of (Some i) = i

-- whether the id j is the named one
abbrev pub is_id : Named → ℕ → Bool
is_id None j = false
is_id (Some i) j = eqb i j

-- whether both name one id
abbrev pub same : Named → Named → Bool
same None k = false
same (Some i) None = false
same (Some i) (Some j) = eqb i j

module _ {A : Type 0} where
  abbrev pub find_by : Table A → Named → Found A
  find_by t None = absent
  find_by t (Some i) = find t i

  -- the row made r, where it is named and there
  abbrev pub put_by : Table A → Named → A → Table A
  put_by t None r = t
  put_by t (Some i) r = adjust t i (λ old. r)
