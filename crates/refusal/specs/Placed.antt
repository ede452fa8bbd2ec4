-- A list put over a list from a place on.
use Rattle.std.specs.Prelude.{ℕ, ◌+◌, List, ◌++◌, leb, length, take, drop}
use Rattle.refusal.specs.Choice.{pick}

-- l with w from place p on, and that where there is room for w, else l as it is
unfoldable pub placed : ℕ → List ℕ → List ℕ → List ℕ
placed p w l = take p l ++ (w ++ drop (p + length w) l)

unfoldable pub laid : ℕ → List ℕ → List ℕ → List ℕ
laid p w l = pick (leb (p + length w) (length l)) (placed p w l) l
