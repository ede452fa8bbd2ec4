-- The entries of a list that a test of place and entry takes, and the numbers of some entries one after another. Over any entry.
use Rattle.std.specs.Prelude.{Bool, cond, List, [], ◌∷◌, ◌++◌, ℕ, suc}

module _ {A : Type 0} (q : ℕ → A → Bool) where
  -- the entries that q takes, in their order; the first stands at place k
  unfoldable pub pick_from : ℕ → List A → List A
  pick_from k [] = []
  pick_from k (e ∷ t) = cond (q k e) (e ∷ pick_from (suc k) t) (pick_from (suc k) t)

-- f of each entry, one after another
unfoldable pub spread : {A : Type 0} → (A → List ℕ) → List A → List ℕ
spread f [] = []
spread f (e ∷ t) = f e ++ spread f t
