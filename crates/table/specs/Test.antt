-- The tests of a shelf as a program makes them. Over any row type and any size.
use Rattle.std.specs.Prelude.{ℕ, zero, suc, Bool, true, ◌&&◌, ◌||◌, List, ◌∷◌, get_or, ltb, leb, eqb}

-- p holds at each index below n
abbrev pub all_below : ℕ → (ℕ → Bool) → Bool
all_below zero p = true
all_below (suc n) p = all_below n p && p n

-- used below n, free from n on
abbrev pub by_use : ℕ → ℕ → Bool → Bool → Bool
by_use n i a b = (ltb i n && a) || (leb n i && b)

-- the id at i is above the one before it
abbrev pub above : List ℕ → ℕ → Bool
above ids i = eqb i 0 || ltb (get_or (0 ∷ ids) i 0) (get_or ids i 0)

abbrev pub id_test : ℕ → List ℕ → ℕ → Bool
id_test n ids i = by_use n i (above ids i) (eqb (get_or ids i 0) 0)

abbrev pub ids_test : ℕ → ℕ → List ℕ → Bool
ids_test size n ids = leb n size && all_below size (id_test n ids)

module _ {A : Type 0} (q z : A → Bool) (d : A) where
  abbrev pub row_test : ℕ → List A → ℕ → Bool
  row_test n rows i = by_use n i (q (get_or rows i d)) (z (get_or rows i d))

  abbrev pub rows_test : ℕ → ℕ → List A → Bool
  rows_test size n rows = all_below size (row_test n rows)
