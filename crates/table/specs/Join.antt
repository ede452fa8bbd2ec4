-- Rows that are kept in three arrays, a part of each row in each: the rows joined, and their columns. Over any types.
use Rattle.std.specs.Prelude.{◌≡◌, List, [], ◌∷◌, map, length}

-- one part of each row
module _ {A X : Type 0} (f : A → X) where
  abbrev pub column : List A → List X
  column l = map f l

-- three lists of one length
pub record Level {X Y Z : Type 0} (xs : List X) (ys : List Y) (zs : List Z) : Type 0 where
  pub second : length ys ≡ length xs
  pub third : length zs ≡ length xs

-- rows whose parts stand at one place of the three lists
module _ {X Y Z A : Type 0} (mk : X → Y → Z → A) where
  unfoldable pub join : List X → List Y → List Z → List A
  join [] ys zs = []
  join (x ∷ xs) [] zs = []
  join (x ∷ xs) (y ∷ ys) [] = []
  join (x ∷ xs) (y ∷ ys) (z ∷ zs) = mk x y z ∷ join xs ys zs
