-- The tests of a shelf say just what a shelf is, with rows that all pass
use Prim.Native.Nat.{ℕ, zero, suc, ◌≤◌, ◌<◌}
use Rattle.std.proofs.Common.{arith, sym, ap, ◌∙◌, lt-ltb, le-ltb, le-leb, eq-eqb, ne_eqb, ltb-true, ltb-false, leb-true, eqb-true}
use Rattle.std.specs.Prelude.{◌≡◌, refl, Bool, true, false, cond, ◌&&◌, ◌||◌, length, get_or, ltb, leb, eqb}
use mathlib.Core.List.{List, [], ◌∷◌}
use Rattle.std.proofs.lemmas.Bool.{lt-leb}
use Rattle.table.specs.All.{all-at, all_make, both_true}
use Rattle.table.specs.Test.{all_below, above, id_test, ids_test, row_test, rows_test, by_use}
use Rattle.table.specs.Rising.{Above, Rises}
use Rattle.table.specs.Padded.{pad_rest}
use Rattle.table.specs.Tables.{key, held, keys}
use Rattle.table.specs.Shelf.{table_of, Shelf}
use Rattle.table.proofs.ShelfBack.{ids_back, rows_back, length_table}
use Rattle.table.specs.Sound.{All}

or_same : (b : Bool) → b || false ≡ b
or_same true = refl
or_same false = refl

module _ (n i : ℕ) (a b : Bool) where
  pub used : by_use n i a b ≡ true → i < n → a ≡ true
  used e h = sym (or_same a) ∙ simp (lt-ltb i n h, lt-leb n i h) at e

  pub free : by_use n i a b ≡ true → n ≤ i → b ≡ true
  free e h = simp (le-ltb i n h, le-leb n i h) at e

  pub make : (i < n → a ≡ true) → (n ≤ i → b ≡ true) → by_use n i a b ≡ true
  make f g = go (ltb i n) refl
    where
      go : (t : Bool) → ltb i n ≡ t → by_use n i a b ≡ true
      go true q = rw (q, f (ltb-true i n q))
      go false q = rw (q, le-leb n i (ltb-false i n q), g (ltb-false i n q))

  -- a program tests one of the two
  pub by_use_lem : by_use n i a b ≡ cond (ltb i n) a b
  by_use_lem = go (ltb i n) refl
    where
      go : (t : Bool) → ltb i n ≡ t → by_use n i a b ≡ cond (ltb i n) a b
      go true q = rw (q, lt-leb n i (ltb-true i n q)) (or_same a)
      go false q = rw (q, le-leb n i (ltb-false i n q))

later : (m : ℕ) → eqb (suc m) 0 ≡ false
later m = ne_eqb (suc m) 0 (λ e. omega arith)

module _ {A : Type 0} where
  above_of : (i : ℕ) (ids : List ℕ) (rows : List A) (n : ℕ) → n ≤ length ids → ((m : ℕ) → m < n → get_or (i ∷ ids) m 0 < get_or ids m 0) → Above i (keys (table_of ids rows n))
  unfolding keys table_of
  above_of i [] rows n h f = tt
  above_of i (j ∷ ids) [] n h f = tt
  above_of i (j ∷ ids) (r ∷ rows) zero h f = tt
  above_of i (j ∷ ids) (r ∷ rows) (suc n) h f = (f 0 (omega arith), above_of j ids rows n (omega arith) (λ m l. f (suc m) (omega arith)))

  rises_of : (ids : List ℕ) (rows : List A) (n : ℕ) → n ≤ length ids → ((m : ℕ) → suc m < n → get_or ids m 0 < get_or ids (suc m) 0) → Rises (keys (table_of ids rows n))
  unfolding keys table_of
  rises_of [] rows n h f = tt
  rises_of (j ∷ ids) [] n h f = tt
  rises_of (j ∷ ids) (r ∷ rows) zero h f = tt
  rises_of (j ∷ ids) (r ∷ rows) (suc n) h f = above_of j ids rows n (omega arith) (λ m l. f m (omega arith))

  above_at : (i : ℕ) (ids : List ℕ) (rows : List A) (n m : ℕ) → Above i (keys (table_of ids rows n)) → m < length (table_of ids rows n) → get_or (i ∷ ids) m 0 < get_or ids m 0
  unfolding keys table_of
  above_at i [] rows n m a h = absurd (omega arith)
  above_at i (j ∷ ids) [] n m a h = absurd (omega arith)
  above_at i (j ∷ ids) (r ∷ rows) zero m a h = absurd (omega arith)
  above_at i (j ∷ ids) (r ∷ rows) (suc n) zero a h = a.0
  above_at i (j ∷ ids) (r ∷ rows) (suc n) (suc m) a h = above_at j ids rows n m a.1 (omega arith)

  rises_at : (ids : List ℕ) (rows : List A) (n m : ℕ) → Rises (keys (table_of ids rows n)) → suc m < length (table_of ids rows n) → get_or ids m 0 < get_or ids (suc m) 0
  unfolding keys table_of
  rises_at [] rows n m a h = absurd (omega arith)
  rises_at (j ∷ ids) [] n m a h = absurd (omega arith)
  rises_at (j ∷ ids) (r ∷ rows) zero m a h = absurd (omega arith)
  rises_at (j ∷ ids) (r ∷ rows) (suc n) m a h = above_at j ids rows n m a (omega arith)

  all_of : (p : A → Type 0) (d : A) (ids : List ℕ) (rows : List A) (n : ℕ) → ((i : ℕ) → i < n → p (get_or rows i d)) → All p (table_of ids rows n)
  unfolding table_of
  all_of p d [] rows n f = tt
  all_of p d (j ∷ ids) [] n f = tt
  all_of p d (j ∷ ids) (r ∷ rows) zero f = tt
  all_of p d (j ∷ ids) (r ∷ rows) (suc n) f = (f 0 (omega arith), all_of p d ids rows n (λ i l. f (suc i) (omega arith)))

  row_at : (p : A → Type 0) (d : A) (ids : List ℕ) (rows : List A) (n i : ℕ) → All p (table_of ids rows n) → i < length (table_of ids rows n) → p (get_or rows i d)
  unfolding table_of
  row_at p d [] rows n i a h = absurd (omega arith)
  row_at p d (j ∷ ids) [] n i a h = absurd (omega arith)
  row_at p d (j ∷ ids) (r ∷ rows) zero i a h = absurd (omega arith)
  row_at p d (j ∷ ids) (r ∷ rows) (suc n) zero a h = a.0
  row_at p d (j ∷ ids) (r ∷ rows) (suc n) (suc i) a h = row_at p d ids rows n i a.1 (omega arith)

-- the tests make a shelf whose rows all pass; that a row which tests as zero is zero is asked of the rows that are there
module _ {A : Type 0} (q z : A → Bool) (d : A) (size n : ℕ) (ids : List ℕ) (rows : List A)
    (a : length ids ≡ size) (b : length rows ≡ size) (t : ids_test size n ids && rows_test q z d size n rows ≡ true) where
  ids_passed : ids_test size n ids ≡ true
  ids_passed = (both_true (ids_test size n ids) (rows_test q z d size n rows) t).0

  few : n ≤ size
  few = leb-true n size (both_true (leb n size) (all_below size (id_test n ids)) ids_passed).0

  id_at : (i : ℕ) → i < size → id_test n ids i ≡ true
  id_at = all-at (id_test n ids) size (both_true (leb n size) (all_below size (id_test n ids)) ids_passed).1

  row_is : (i : ℕ) → i < size → row_test q z d n rows i ≡ true
  row_is = all-at (row_test q z d n rows) size (both_true (ids_test size n ids) (rows_test q z d size n rows) t).1

  pub shelf_of : ((i : ℕ) → i < size → z (get_or rows i d) ≡ true → get_or rows i d ≡ d) → Shelf d size ids rows n
  shelf_of zero_is = record {
    ids_kept = ids_back d ids rows n size a b (λ i h l. eqb-true (get_or ids i 0) 0 (free n i (above ids i) (eqb (get_or ids i 0) 0) (id_at i l) h));
    rows-kept = rows_back d ids rows n size a b (λ i h l. zero_is i l (free n i (q (get_or rows i d)) (z (get_or rows i d)) (row_is i l) h));
    counted = length_table ids rows n (omega (arith, few)) (omega (arith, few));
    few = few;
    rising = rises_of ids rows n (omega (arith, few)) (λ m h. ltb-true (get_or ids m 0) (get_or ids (suc m) 0) (rw (later m) at (used n (suc m) (above ids (suc m)) (eqb (get_or ids (suc m) 0) 0) (id_at (suc m) (omega (arith, few))) h)));
  }

  pub rows_of_lem : (p : A → Type 0) → ((i : ℕ) → i < size → q (get_or rows i d) ≡ true → p (get_or rows i d)) → All p (table_of ids rows n)
  rows_of_lem p f = all_of p d ids rows n (λ i h. f i (omega (arith, few)) (used n i (q (get_or rows i d)) (z (get_or rows i d)) (row_is i (omega (arith, few))) h))

-- past its count a shelf has zero rows
free_row : {A : Type 0} {d : A} {size n : ℕ} {ids : List ℕ} {rows : List A} → Shelf d size ids rows n → (i : ℕ) → n ≤ i → get_or rows i d ≡ d
free_row {A} {d} {size} {n} {ids} {rows} s i h = ap (λ u. get_or u i d) (sym s.rows-kept) ∙ pad_rest d held size (table_of ids rows n) i (omega (arith, s.counted))

-- a shelf whose rows all pass passes the tests
module _ {A : Type 0} (q z : A → Bool) (d : A) (zero-yes : z d ≡ true) {size n : ℕ} {ids : List ℕ} {rows : List A} (s : Shelf d size ids rows n) (o : All (λ r. q r ≡ true) (table_of ids rows n)) where
  above_yes : (i : ℕ) → i < n → above ids i ≡ true
  above_yes zero h = refl
  above_yes (suc m) h = rw (later m) (lt-ltb (get_or ids m 0) (get_or ids (suc m) 0) (rises_at ids rows n m s.rising (omega (arith, s.counted))))

  ids_pass : ids_test size n ids ≡ true
  ids_pass = rw (le-leb n size s.few) (all_make (id_test n ids) size (λ i l. make n i (above ids i) (eqb (get_or ids i 0) 0) (above_yes i)
      (λ h. eq-eqb (get_or ids i 0) 0 (ap (λ u. get_or u i 0) (sym s.ids_kept) ∙ pad_rest 0 key size (table_of ids rows n) i (omega (arith, s.counted))))))

  rows_pass : rows_test q z d size n rows ≡ true
  rows_pass = all_make (row_test q z d n rows) size (λ i l. make n i (q (get_or rows i d)) (z (get_or rows i d))
      (λ h. row_at (λ r. q r ≡ true) d ids rows n i o (omega (arith, s.counted)))
      (λ h. ap z (free_row s i h) ∙ zero-yes))

  pub passes : ids_test size n ids && rows_test q z d size n rows ≡ true
  passes = rw (ids_pass, rows_pass)

-- what holds of the rows and of a zero row holds at every place
pub everywhere : {A : Type 0} {d : A} {size n : ℕ} {ids : List ℕ} {rows : List A} (p : A → Type 0) → Shelf d size ids rows n → All p (table_of ids rows n) → p d → (i : ℕ) → p (get_or rows i d)
everywhere {A} {d} {size} {n} {ids} {rows} p s o y i = go (ltb i n) refl
  where
    go : (b : Bool) → ltb i n ≡ b → p (get_or rows i d)
    go true q = row_at p d ids rows n i o (omega (arith, s.counted, ltb-true i n q))
    go false q = rw (free_row s i (ltb-false i n q)) y
