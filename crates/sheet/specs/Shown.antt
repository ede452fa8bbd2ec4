-- A text shown in a lent buffer: what is answered, the text's length or 14; and the buffer after it, the text and what stood past it, or as it was.
use Rattle.std.specs.Prelude.{ℕ, List, ◌++◌, leb, length, drop}
use Rattle.refusal.specs.Choice.{pick}
use Rattle.refusal.specs.Refusal.{number, buffer_short}

unfoldable pub listed_in : List ℕ → List ℕ → ℕ × ℕ
listed_in t l = pick (leb (length t) (length l)) (0, length t) (number buffer_short, 0)

unfoldable pub shown_in : List ℕ → List ℕ → List ℕ
shown_in t l = pick (leb (length t) (length l)) (t ++ drop (length t) l) l
