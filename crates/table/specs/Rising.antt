-- Ids that rise: each is above the one before it
use Rattle.std.specs.Prelude.{List, [], ◌∷◌, ℕ, ◌<◌}

-- they rise, and the first is above p
abbrev pub Above : ℕ → List ℕ → Type 0
Above p [] = Unit {0}
Above p (x ∷ xs) = (p < x) × Above x xs

abbrev pub Rises : List ℕ → Type 0
Rises [] = Unit {0}
Rises (x ∷ xs) = Above x xs
