-- What is read from a place on, one after the other, to the end or to a fault: commands, or questions.
use Rattle.std.specs.Prelude.{Bool, true, false, List, [], ◌∷◌, ◌++◌, ℕ, zero, suc}

-- what stands at a place: a command or a question, as its tag and its numbers, and the place past it; a fault; or the end
pub data Item : Type 0 where
  item : ℕ × List ℕ → ℕ → Item
  fault : Item
  end : Item

-- those read, and whether there was a fault, and where the walk stopped
pub record Walk : Type 0 where
  pub items : List (ℕ × List ℕ)
  pub bad : Bool
  pub at : ℕ

abbrev pub halted : Bool → ℕ → Walk
halted b at = record { items = []; bad = b; at = at }

abbrev pub more : ℕ × List ℕ → Walk → Walk
more x w = record { items = x ∷ w.items; bad = w.bad; at = w.at }

abbrev pub follow : (ℕ → Walk) → ℕ → Item → Walk
follow rest at (item x next) = more x (rest next)
follow rest at fault = halted true at
follow rest at end = halted false at

-- at most n of them: there are fewer than bytes (`from_here`)
unfoldable pub walk_by : ℕ → (ℕ → Item) → ℕ → Walk
walk_by zero f at = halted false at
walk_by (suc n) f at = follow (walk_by n f) at (f at)

-- all of them, written by a function
unfoldable pub all_of : (ℕ × List ℕ → List ℕ) → List (ℕ × List ℕ) → List ℕ
all_of out [] = []
all_of out (x ∷ xs) = out x ++ all_of out xs
