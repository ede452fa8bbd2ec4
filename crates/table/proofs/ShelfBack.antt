-- A table stored and read back, and a shelf read and stored back
use Rattle.std.specs.Prelude.{◌≡◌, length, get_or, take}
use Rattle.std.proofs.Math.Path.{refl, ap}
use Rattle.std.proofs.Common.{sym, ◌∙◌}
use mathlib.Core.List.{List, [], ◌∷◌}
use Prim.Native.Nat.{ℕ, zero, suc, ◌≤◌, ◌<◌}
use native.Mathlib.Omega.{arith}
use Rattle.table.specs.Tables.{Table, adjust, key, held, keys}
use Rattle.table.proofs.TableLaws.{keys_adjust}
use Rattle.table.specs.Rising.{Rises}
use Rattle.table.specs.Padded.{padded}
use Rattle.table.specs.Shelf.{table_of, Shelf}

module _ {A : Type 0} where
  -- stored and read back
  pub table_stored : (d : A) (n : ℕ) (t : Table A) → length t ≤ n → table_of (padded 0 key n t) (padded d held n t) (length t) ≡ t
  unfolding padded table_of
  table_stored d zero [] h = refl
  table_stored d zero (e ∷ t) h = absurd (omega arith)
  table_stored d (suc n) [] h = refl
  table_stored d (suc n) (e ∷ t) h = ap (λ z. e ∷ z) (table_stored d n t (omega arith))

  nothing : (ids : List ℕ) (rows : List A) → table_of ids rows 0 ≡ []
  unfolding table_of
  nothing [] rows = refl
  nothing (i ∷ ids) [] = refl
  nothing (i ∷ ids) (r ∷ rows) = refl

  -- read and stored back: xs is g of each row in use, and d past the count
  back : {B : Type 0} (d : B) (g : ℕ × A → B) (dr : A) (xs : List B) (ids : List ℕ) (rows : List A) (c n : ℕ) → length xs ≡ n → length ids ≡ n → length rows ≡ n
      → ((i : ℕ) → i < n → g (get_or ids i 0, get_or rows i dr) ≡ get_or xs i d) → ((i : ℕ) → c ≤ i → i < n → get_or xs i d ≡ d)
      → padded d g n (table_of ids rows c) ≡ xs
  unfolding padded table_of
  back d g dr [] ids rows c zero p a b f h = refl
  back d g dr (x ∷ xs) ids rows c zero p a b f h = absurd (omega arith)
  back d g dr [] ids rows c (suc n) p a b f h = absurd (omega arith)
  back d g dr (x ∷ xs) [] rows c (suc n) p a b f h = absurd (omega arith)
  back d g dr (x ∷ xs) (i ∷ ids) [] c (suc n) p a b f h = absurd (omega arith)
  back d g dr (x ∷ xs) (i ∷ ids) (r ∷ rows) zero (suc n) p a b f h =
      rw (nothing ids rows) at
      (ap (λ z. d ∷ z) (back d g dr xs ids rows 0 n (omega arith) (omega arith) (omega arith) (λ j q. f (suc j) (omega arith)) (λ j l q. h (suc j) (omega arith) (omega arith))))
      ∙ ap (λ z. z ∷ xs) (sym (h 0 (omega arith) (omega arith)))
  back d g dr (x ∷ xs) (i ∷ ids) (r ∷ rows) (suc c) (suc n) p a b f h =
      ap (λ z. z ∷ padded d g n (table_of ids rows c)) (f 0 (omega arith))
      ∙ ap (λ z. x ∷ z) (back d g dr xs ids rows c n (omega arith) (omega arith) (omega arith) (λ j q. f (suc j) (omega arith)) (λ j l q. h (suc j) (omega arith) (omega arith)))

  module _ (d : A) (ids : List ℕ) (rows : List A) (c n : ℕ) (a : length ids ≡ n) (b : length rows ≡ n) where
    pub ids_back : ((i : ℕ) → c ≤ i → i < n → get_or ids i 0 ≡ 0) → padded 0 key n (table_of ids rows c) ≡ ids
    ids_back h = back 0 key d ids ids rows c n a a b (λ i l. refl) h

    pub rows_back : ((i : ℕ) → c ≤ i → i < n → get_or rows i d ≡ d) → padded d held n (table_of ids rows c) ≡ rows
    rows_back h = back d held d rows ids rows c n b a b (λ i l. refl) h

  pub length_table : (ids : List ℕ) (rows : List A) (c : ℕ) → c ≤ length ids → c ≤ length rows → length (table_of ids rows c) ≡ c
  unfolding table_of
  length_table [] rows c a b = omega arith
  length_table (i ∷ ids) [] c a b = omega arith
  length_table (i ∷ ids) (r ∷ rows) zero a b = refl
  length_table (i ∷ ids) (r ∷ rows) (suc c) a b = ap suc (length_table ids rows c (omega arith) (omega arith))

  pub take_keys : (n : ℕ) (t : Table A) → length t ≤ n → take (length t) (padded 0 key n t) ≡ keys t
  unfolding padded keys
  take_keys zero [] h = refl
  take_keys zero (e ∷ t) h = absurd (omega arith)
  take_keys (suc n) [] h = refl
  take_keys (suc n) (e ∷ t) h = ap (λ z. e.0 ∷ z) (take_keys n t (omega arith))

  -- the ids stored are those of the keys
  pad_keys : (n : ℕ) (t : Table A) → padded 0 key n t ≡ padded 0 (λ i. i) n (keys t)
  unfolding padded keys
  pad_keys zero t = refl
  pad_keys (suc n) [] = ap (λ z. 0 ∷ z) (pad_keys n [])
  pad_keys (suc n) (e ∷ t) = ap (λ z. e.0 ∷ z) (pad_keys n t)

  pub ids_adjust : (n : ℕ) (t : Table A) (i : ℕ) (f : A → A) → padded 0 key n (adjust t i f) ≡ padded 0 key n t
  ids_adjust n t i f = pad_keys n (adjust t i f) ∙ ap (λ z. padded 0 (λ i. i) n z) (keys_adjust t i f) ∙ sym (pad_keys n t)

-- a table that is stored is a shelf
pub shelf_stored : {A : Type 0} (d : A) (n : ℕ) (t : Table A) → length t ≤ n → Rises (keys t) → Shelf d n (padded 0 key n t) (padded d held n t) (length t)
shelf_stored d n t h a =
    let e = table_stored d n t h in
    record {
      ids_kept = ap (λ z. padded 0 key n z) e;
      rows-kept = ap (λ z. padded d held n z) e;
      counted = ap length e;
      few = h;
      rising = rw e a;
    }
