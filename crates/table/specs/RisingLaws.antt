-- Ids that rise from a first one rise.
use Rattle.std.specs.Prelude.{List, [], ◌∷◌, ℕ}
use Rattle.table.specs.Rising.{Above, Rises}

pub above_rises : (p : ℕ) (xs : List ℕ) → Above p xs → Rises xs
above_rises p [] a = tt
above_rises p (x ∷ xs) a = a.1
