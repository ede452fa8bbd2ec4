-- A row made of three parts, and what becomes of the three columns as a row is put or let in
use Rattle.std.specs.Prelude.{ℕ, ◌≡◌, set}
use Rattle.std.proofs.Math.Path.{refl, ap}
use Rattle.std.proofs.Common.{sym, ◌∙◌}
use mathlib.Core.List.{List, [], ◌∷◌}
use Rattle.table.specs.Shift.{insert_at}
use Rattle.table.specs.Columns.{column_set, column_insert, level_turn, first-of, join_turn}
use Rattle.table.specs.Join.{column, Level, join}

-- mk makes a row of its parts f, g and h; for a record each field is refl
pub record Parts {X Y Z A : Type 0} (mk : X → Y → Z → A) (f : A → X) (g : A → Y) (h : A → Z) : Type 0 where
  pub first : (x : X) (y : Y) (z : Z) → f (mk x y z) ≡ x
  pub second : (x : X) (y : Y) (z : Z) → g (mk x y z) ≡ y
  pub third : (x : X) (y : Y) (z : Z) → h (mk x y z) ≡ z
  pub whole : (a : A) → mk (f a) (g a) (h a) ≡ a

-- a value made of the three columns of some rows
module _ {X Y Z A S : Type 0} (f : A → X) (g : A → Y) (h : A → Z) (into : List X → List Y → List Z → S) where
  abbrev pub apart : List A → S
  apart l = into (column f l) (column g l) (column h l)

module _ {X Y Z A : Type 0} {mk : X → Y → Z → A} {f : A → X} {g : A → Y} {h : A → Z} (p : Parts mk f g h) where
  pub join_columns : (l : List A) → join mk (column f l) (column g l) (column h l) ≡ l
  unfolding join
  join_columns [] = refl
  join_columns (a ∷ l) = ap (λ w. w ∷ join mk (column f l) (column g l) (column h l)) (p.whole a) ∙ ap (λ w. a ∷ w) (join_columns l)

  module _ {xs : List X} {ys : List Y} {zs : List Z} (v : Level xs ys zs) where
    pub first_column : column f (join mk xs ys zs) ≡ xs
    first_column = first-of mk f p.first xs ys zs v

    pub second_column : column g (join mk xs ys zs) ≡ ys
    second_column = ap (column g) (join_turn mk xs ys zs) ∙ first-of (λ y z x. mk x y z) g (λ y z x. p.second x y z) ys zs xs (level_turn v)

    pub third_column : column h (join mk xs ys zs) ≡ zs
    third_column =
        ap (column h) (join_turn mk xs ys zs ∙ join_turn (λ y z x. mk x y z) ys zs xs)
        ∙ first-of (λ z x y. mk x y z) h (λ z x y. p.third x y z) zs xs ys (level_turn (level_turn v))

    -- the columns as they are, after a row is put, and after one is let in
    module _ {S : Type 0} (into : List X → List Y → List Z → S) where
      same : {a a' : List X} {b b' : List Y} {c c' : List Z} → a ≡ a' → b ≡ b' → c ≡ c' → into a b c ≡ into a' b' c'
      same {a} {a'} {b} {b'} {c} {c'} q r t = ap (λ w. into w b c) q ∙ ap (λ w. into a' w c) r ∙ ap (λ w. into a' b' w) t

      pub apart_join : into xs ys zs ≡ apart f g h into (join mk xs ys zs)
      apart_join = sym (same first_column second_column third_column)

      pub apart_set : (k : ℕ) (a : A) → into (set xs k (f a)) (set ys k (g a)) (set zs k (h a)) ≡ apart f g h into (set (join mk xs ys zs) k a)
      apart_set k a =
          sym (same
          (column_set f (join mk xs ys zs) k a ∙ ap (λ w. set w k (f a)) first_column)
          (column_set g (join mk xs ys zs) k a ∙ ap (λ w. set w k (g a)) second_column)
          (column_set h (join mk xs ys zs) k a ∙ ap (λ w. set w k (h a)) third_column))

      pub apart_insert : (k : ℕ) (a : A) → into (insert_at k (f a) xs) (insert_at k (g a) ys) (insert_at k (h a) zs) ≡ apart f g h into (insert_at k a (join mk xs ys zs))
      apart_insert k a =
          sym (same
          (column_insert f k a (join mk xs ys zs) ∙ ap (λ w. insert_at k (f a) w) first_column)
          (column_insert g k a (join mk xs ys zs) ∙ ap (λ w. insert_at k (g a) w) second_column)
          (column_insert h k a (join mk xs ys zs) ∙ ap (λ w. insert_at k (h a) w) third_column))

    pub set_join : (k : ℕ) (a : A) → set (join mk xs ys zs) k a ≡ join mk (set xs k (f a)) (set ys k (g a)) (set zs k (h a))
    set_join k a = sym (apart_set (join mk) k a ∙ join_columns (set (join mk xs ys zs) k a))

    pub insert_join : (k : ℕ) (a : A) → insert_at k a (join mk xs ys zs) ≡ join mk (insert_at k (f a) xs) (insert_at k (g a) ys) (insert_at k (h a) zs)
    insert_join k a = sym (apart_insert (join mk) k a ∙ join_columns (insert_at k a (join mk xs ys zs)))
