-- Rows that were read, stored at their places. Over any row type and any size.
use Rattle.std.specs.Prelude.{◌≡◌, length, set, replicate}
use Rattle.std.proofs.Math.Path.{refl, ap}
use Rattle.std.proofs.Common.{sym, ◌∙◌, arith}
use mathlib.Core.List.{List, [], ◌∷◌, ◌++◌, map}
use Prim.Native.Nat.{ℕ, zero, suc, ◌+◌, ◌<◌}
use Rattle.table.specs.Tables.{Table, key, held}
use Rattle.table.specs.Padded.{padded}
use Rattle.table.specs.Join.{column}
use Rattle.table.specs.Shelf.{shelve}
use Rattle.negotiation.specs.declared.Round.{Round}
use Rattle.negotiation.specs.Rounds.{round_slots, no_round}
use Rattle.codec.specs.Codec.{Codec, rows}
use Rattle.codec.specs.Cursors.{Takes, Count, Filling, fill_start, fill_turn, fill_done}
use Rattle.codec.specs.declared.Cursor.{Cursor}

-- a list of rows was read from c to d, and x is that list as it is stored
pub record Reads {E S : Type 0} (stored : List E → S) (a : Codec (List E)) (s : List ℕ) (c : Cursor) (x : S) (d : Cursor) : Type 0 where
  pub all : List E
  pub takes : Takes s c a d all
  pub is : x ≡ stored all

-- rounds as a negotiation holds them
abbrev pub laid_rounds : List Round → List Round × ℕ
laid_rounds rs = (padded no_round (λ r. r) round_slots rs, length rs)

-- ── One row more ──────────────────────────────────────────────────
module _ {E B : Type 0} (d : B) (g : E → B) where
  pub set_padded : (n : ℕ) (t : List E) (x : E) → length t < n → set (padded d g n t) (length t) (g x) ≡ padded d g n (t ++ (x ∷ []))
  unfolding padded
  set_padded zero t x h = absurd (omega arith)
  set_padded (suc n) [] x h = refl
  set_padded (suc n) (y ∷ t) x h = ap (λ l. g y ∷ l) (set_padded n t x (omega arith))

  -- with no row, the places are all alike
  pub nothing_padded : (n : ℕ) → replicate n d ≡ padded d g n []
  unfolding padded
  nothing_padded zero = refl
  nothing_padded (suc n) = ap (λ l. d ∷ l) (nothing_padded n)

set_map : {A B : Type 0} (f : A → B) (l : List A) (i : ℕ) (x : A) → set (map f l) i (f x) ≡ map f (set l i x)
set_map f [] i x = refl
set_map f (y ∷ l) zero x = refl
set_map f (y ∷ l) (suc i) x = ap (λ z. f y ∷ z) (set_map f l i x)

-- a column of an array, at the place of the next row
module _ {E B : Type 0} (d : B) (g : E → B) {n i : ℕ} (t : List E) (x : E) {l : List B} (q : length t ≡ i) (h : i < n) (e : l ≡ padded d g n t) where
  pub set_next : set l i (g x) ≡ padded d g n (t ++ (x ∷ []))
  set_next = rw (e, ← q) (set_padded d g n t x (omega (arith, q, h)))

module _ {E B C : Type 0} (f : B → C) (d : B) (g : E → B) {n i : ℕ} (t : List E) (x : E) {l : List C} (q : length t ≡ i) (h : i < n) (e : l ≡ map f (padded d g n t)) where
  pub set_part : set l i (f (g x)) ≡ map f (padded d g n (t ++ (x ∷ [])))
  set_part = rw (e, set_map f (padded d g n t) i (g x)) (ap (map f) (set_next d g t x q h refl))

-- ── A table of two arrays, i of its rows read ─────────────────────
pub record FillingTable {A : Type 0} (a : Codec (ℕ × A)) (z : A) (n : ℕ) (s : List ℕ) (k : Cursor) (i : ℕ) (ids : List ℕ) (rs : List A) (d : Cursor) : Type 0 where
  pub table : Table A
  pub filling : Filling a s k i table d
  pub ids_are : ids ≡ padded 0 key n table
  pub rows_are : rs ≡ padded z held n table

module _ {A : Type 0} (a : Codec (ℕ × A)) (z : A) (n : ℕ) (s : List ℕ) (k : Cursor) where
  pub table_start : {ids : List ℕ} {rs : List A} → ids ≡ padded {E = ℕ × A} 0 key n [] → rs ≡ padded {E = ℕ × A} z held n [] → FillingTable a z n s k 0 ids rs k
  table_start e f = record { table = []; filling = fill_start a s k; ids_are = e; rows_are = f }

  pub table_turn : {i id : ℕ} {ids : List ℕ} {rs : List A} {d e : Cursor} {r : A} → i < n → FillingTable a z n s k i ids rs d → Takes s d a e (id, r) → FillingTable a z n s k (i + 1) (set ids i id) (set rs i r) e
  table_turn {i} {id} {ids} {rs} {d} {e} {r} h g t = record {
    table = g.table ++ ((id, r) ∷ []);
    filling = fill_turn a s k g.filling t;
    ids_are = set_next 0 key g.table (id, r) g.filling.count h g.ids_are;
    rows_are = set_next z held g.table (id, r) g.filling.count h g.rows_are;
  }

same_three : {A B C S : Type 0} (mk : A → B → C → S) {a a' : A} {b b' : B} {c c' : C} → a ≡ a' → b ≡ b' → c ≡ c' → mk a b c ≡ mk a' b' c'
same_three mk p q r = rw (p, q, r)

pub table_done : {A S : Type 0} (mk : List ℕ → List A → ℕ → S) {a : Codec (ℕ × A)} {z : A} {n : ℕ} {s : List ℕ} {c k d : Cursor} {i tag : ℕ} {ids : List ℕ} {rs : List A} → Count s c tag n k → i ≡ k.x → FillingTable a z n s k i ids rs d → Reads (shelve mk z n) (rows tag n a) s c (mk ids rs k.x) d
table_done mk m e g = record {
  all = g.table;
  takes = fill_done m e g.filling;
  is = same_three mk g.ids_are g.rows_are (sym e ∙ sym g.filling.count);
}

-- ── Rounds: one array ─────────────────────────────────────────────
pub record FillingRounds (a : Codec Round) (s : List ℕ) (k : Cursor) (i : ℕ) (rs : List Round) (d : Cursor) : Type 0 where
  pub list : List Round
  pub filling : Filling a s k i list d
  pub rows_are : rs ≡ padded no_round (λ r. r) round_slots list

module _ (a : Codec Round) (s : List ℕ) (k : Cursor) where
  pub rounds_start : {rs : List Round} → rs ≡ padded no_round (λ r. r) round_slots [] → FillingRounds a s k 0 rs k
  rounds_start e = record { list = []; filling = fill_start a s k; rows_are = e }

  pub rounds_turn : {i : ℕ} {rs : List Round} {d e : Cursor} {r : Round} → i < round_slots → FillingRounds a s k i rs d → Takes s d a e r → FillingRounds a s k (i + 1) (set rs i r) e
  rounds_turn {i} {rs} {d} {e} {r} h g t = record {
    list = g.list ++ (r ∷ []);
    filling = fill_turn a s k g.filling t;
    rows_are = set_next no_round (λ r. r) g.list r g.filling.count h g.rows_are;
  }

pub rounds_done : {a : Codec Round} {s : List ℕ} {c k d : Cursor} {i tag limit : ℕ} {rs : List Round} → Count s c tag limit k → i ≡ k.x → FillingRounds a s k i rs d → Reads laid_rounds (rows tag limit a) s c (rs, k.x) d
rounds_done {rs = rs} m e g = record {
  all = g.list;
  takes = fill_done m e g.filling;
  is = both g.rows_are (sym e ∙ sym g.filling.count);
}
  where
    both : {a a' : List Round} {b b' : ℕ} → a ≡ a' → b ≡ b' → ◌≡◌ {A = List Round × ℕ} (a, b) (a', b')
    both p q = rw (p, q)

-- ── A table whose rows are kept in three arrays ───────────────────
module _ {A X Y Z : Type 0} (f : A → X) (g : A → Y) (h : A → Z) where
  pub record FillingParts (a : Codec (ℕ × A)) (z : A) (n : ℕ) (s : List ℕ) (k : Cursor) (i : ℕ) (ids : List ℕ) (xs : List X) (ys : List Y) (zs : List Z) (d : Cursor) : Type 0 where
    pub table : Table A
    pub filling : Filling a s k i table d
    pub ids_are : ids ≡ padded 0 key n table
    pub firsts_are : xs ≡ column f (padded z held n table)
    pub seconds_are : ys ≡ column g (padded z held n table)
    pub thirds_are : zs ≡ column h (padded z held n table)

  module _ (a : Codec (ℕ × A)) (z : A) (n : ℕ) (s : List ℕ) (k : Cursor) where
    pub parts_start : {ids : List ℕ} {xs : List X} {ys : List Y} {zs : List Z} → ids ≡ padded {E = ℕ × A} 0 key n [] → xs ≡ column f (padded {E = ℕ × A} z held n []) → ys ≡ column g (padded {E = ℕ × A} z held n []) → zs ≡ column h (padded {E = ℕ × A} z held n [])
        → FillingParts a z n s k 0 ids xs ys zs k
    parts_start p q r t = record { table = []; filling = fill_start a s k; ids_are = p; firsts_are = q; seconds_are = r; thirds_are = t }

    pub parts_turn : {i id : ℕ} {ids : List ℕ} {xs : List X} {ys : List Y} {zs : List Z} {d e : Cursor} {r : A} → i < n → FillingParts a z n s k i ids xs ys zs d → Takes s d a e (id, r)
        → FillingParts a z n s k (i + 1) (set ids i id) (set xs i (f r)) (set ys i (g r)) (set zs i (h r)) e
    parts_turn {i} {id} {ids} {xs} {ys} {zs} {d} {e} {r} l w t = record {
      table = w.table ++ ((id, r) ∷ []);
      filling = fill_turn a s k w.filling t;
      ids_are = set_next 0 key w.table (id, r) w.filling.count l w.ids_are;
      firsts_are = set_part f z held w.table (id, r) w.filling.count l w.firsts_are;
      seconds_are = set_part g z held w.table (id, r) w.filling.count l w.seconds_are;
      thirds_are = set_part h z held w.table (id, r) w.filling.count l w.thirds_are;
    }

  abbrev pub parted : {S : Type 0} (mk : List ℕ → List X → List Y → List Z → ℕ → S) (z : A) (n : ℕ) → Table A → S
  parted mk z n t = mk (padded 0 key n t) (column f (padded z held n t)) (column g (padded z held n t)) (column h (padded z held n t)) (length t)

  pub parts_done : {S : Type 0} (mk : List ℕ → List X → List Y → List Z → ℕ → S) {a : Codec (ℕ × A)} {z : A} {n : ℕ} {s : List ℕ} {c k d : Cursor} {i tag : ℕ} {ids : List ℕ} {xs : List X} {ys : List Y} {zs : List Z}
      → Count s c tag n k → i ≡ k.x → FillingParts a z n s k i ids xs ys zs d → Reads (parted mk z n) (rows tag n a) s c (mk ids xs ys zs k.x) d
  parts_done {S} mk m e w = record {
    all = w.table;
    takes = fill_done m e w.filling;
    is = same w.ids_are w.firsts_are w.seconds_are w.thirds_are (sym e ∙ sym w.filling.count);
  }
    where
      same : {a a' : List ℕ} {x x' : List X} {y y' : List Y} {z z' : List Z} {n n' : ℕ} → a ≡ a' → x ≡ x' → y ≡ y' → z ≡ z' → n ≡ n' → mk a x y z n ≡ mk a' x' y' z' n'
      same p q r t u = rw (p, q, r, t, u)
