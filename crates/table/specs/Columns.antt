-- Rows that are kept in three arrays: what stands at a place of the rows joined and of their columns. Over any types.
use Prim.Native.Nat.{ℕ, zero, suc, ◌<◌}
use Rattle.std.proofs.Common.{le_of_suc-le-suc, not-suc-le-zero, arith, ◌∙◌}
use Rattle.std.specs.Prelude.{◌≡◌, length, get_or, set}
use Rattle.std.proofs.Math.Path.{refl, ap}
use mathlib.Core.List.{List, [], ◌∷◌}
use Rattle.table.specs.Shift.{insert_at}
use Rattle.table.specs.Join.{column, Level, join}

-- what stands at a place of a list is the same, whatever is given for the places that it lacks
pub any-default : {A : Type 0} (xs : List A) (k : ℕ) (d e : A) → k < length xs → get_or xs k d ≡ get_or xs k e
any-default [] k d e h = absurd (not-suc-le-zero h)
any-default (x ∷ xs) zero d e h = refl
any-default (x ∷ xs) (suc k) d e h = any-default xs k d e (le_of_suc-le-suc h)

-- ── One part of each row ──────────────────────────────────────────
module _ {A X : Type 0} (f : A → X) where
  pub column_set : (l : List A) (k : ℕ) (a : A) → column f (set l k a) ≡ set (column f l) k (f a)
  column_set [] k a = refl
  column_set (b ∷ l) zero a = refl
  column_set (b ∷ l) (suc k) a = ap (λ z. f b ∷ z) (column_set l k a)

  pub column_insert : (k : ℕ) (a : A) (l : List A) → column f (insert_at k a l) ≡ insert_at k (f a) (column f l)
  column_insert k a [] = refl
  column_insert zero a (b ∷ l) = ap (λ z. f a ∷ z) (column_insert zero b l)
  column_insert (suc k) a (b ∷ l) = ap (λ z. f b ∷ z) (column_insert k a l)

-- ── Three lists of one length ─────────────────────────────────────
pub level : {X Y Z : Type 0} {n : ℕ} (xs : List X) (ys : List Y) (zs : List Z) → length xs ≡ n → length ys ≡ n → length zs ≡ n → Level xs ys zs
level xs ys zs a b c = record { second = omega arith; third = omega arith }

level_tail : {X Y Z : Type 0} {x : X} {xs : List X} {y : Y} {ys : List Y} {z : Z} {zs : List Z} → Level (x ∷ xs) (y ∷ ys) (z ∷ zs) → Level xs ys zs
level_tail v = record { second = omega (arith, v.second); third = omega (arith, v.third) }

pub level_turn : {X Y Z : Type 0} {xs : List X} {ys : List Y} {zs : List Z} → Level xs ys zs → Level ys zs xs
level_turn v = record { second = omega (arith, v.second, v.third); third = omega (arith, v.second) }

-- ── Rows whose parts stand at one place of the three lists ────────
module _ {X Y Z A : Type 0} (mk : X → Y → Z → A) where
  pub length_join : (xs : List X) (ys : List Y) (zs : List Z) → Level xs ys zs → length (join mk xs ys zs) ≡ length xs
  unfolding join
  length_join [] ys zs v = refl
  length_join (x ∷ xs) [] zs v = absurd (omega (arith, v.second))
  length_join (x ∷ xs) (y ∷ ys) [] v = absurd (omega (arith, v.third))
  length_join (x ∷ xs) (y ∷ ys) (z ∷ zs) v = ap suc (length_join xs ys zs (level_tail v))

  pub get_or_join : (xs : List X) (ys : List Y) (zs : List Z) → Level xs ys zs → (k : ℕ) (dx : X) (dy : Y) (dz : Z)
      → get_or (join mk xs ys zs) k (mk dx dy dz) ≡ mk (get_or xs k dx) (get_or ys k dy) (get_or zs k dz)
  unfolding join
  get_or_join [] [] [] v k dx dy dz = refl
  get_or_join [] [] (z ∷ zs) v k dx dy dz = absurd (omega (arith, v.third))
  get_or_join [] (y ∷ ys) zs v k dx dy dz = absurd (omega (arith, v.second))
  get_or_join (x ∷ xs) [] zs v k dx dy dz = absurd (omega (arith, v.second))
  get_or_join (x ∷ xs) (y ∷ ys) [] v k dx dy dz = absurd (omega (arith, v.third))
  get_or_join (x ∷ xs) (y ∷ ys) (z ∷ zs) v zero dx dy dz = refl
  get_or_join (x ∷ xs) (y ∷ ys) (z ∷ zs) v (suc k) dx dy dz = get_or_join xs ys zs (level_tail v) k dx dy dz

  -- the same at a place that is there, whatever is given for the places that are not
  pub join_at : (xs : List X) (ys : List Y) (zs : List Z) → Level xs ys zs → (k : ℕ) → k < length xs → (d : A) (dx : X) (dy : Y) (dz : Z)
      → get_or (join mk xs ys zs) k d ≡ mk (get_or xs k dx) (get_or ys k dy) (get_or zs k dz)
  join_at xs ys zs v k h d dx dy dz = any-default (join mk xs ys zs) k d (mk dx dy dz) (omega (arith, length_join xs ys zs v)) ∙ get_or_join xs ys zs v k dx dy dz

  -- a part that each row shows is the list that it came from
  pub first-of : (f : A → X) → ((x : X) (y : Y) (z : Z) → f (mk x y z) ≡ x) → (xs : List X) (ys : List Y) (zs : List Z) → Level xs ys zs → column f (join mk xs ys zs) ≡ xs
  unfolding join
  first-of f e [] ys zs v = refl
  first-of f e (x ∷ xs) [] zs v = absurd (omega (arith, v.second))
  first-of f e (x ∷ xs) (y ∷ ys) [] v = absurd (omega (arith, v.third))
  first-of f e (x ∷ xs) (y ∷ ys) (z ∷ zs) v = ap (λ w. w ∷ column f (join mk xs ys zs)) (e x y z) ∙ ap (λ w. x ∷ w) (first-of f e xs ys zs (level_tail v))

-- the lists turned round make the same rows
pub join_turn : {X Y Z A : Type 0} (mk : X → Y → Z → A) (xs : List X) (ys : List Y) (zs : List Z) → join mk xs ys zs ≡ join (λ y z x. mk x y z) ys zs xs
unfolding join
join_turn mk [] [] zs = refl
join_turn mk [] (y ∷ ys) [] = refl
join_turn mk [] (y ∷ ys) (z ∷ zs) = refl
join_turn mk (x ∷ xs) [] zs = refl
join_turn mk (x ∷ xs) (y ∷ ys) [] = refl
join_turn mk (x ∷ xs) (y ∷ ys) (z ∷ zs) = ap (λ r. mk x y z ∷ r) (join_turn mk xs ys zs)
