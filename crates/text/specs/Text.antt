-- The text of a journal: its title, and the lines of its commands in order.
use Rattle.std.specs.Prelude.{true, List, ◌++◌, ℕ, eqb, length}
use Rattle.refusal.specs.Choice.{pick}
use Rattle.journal.specs.Answers.{Reading, found, refused, ended}
use Rattle.journal.specs.Table.{parts_of}
use Rattle.journal.specs.Format.{opening_of, read_at}
use Rattle.text.specs.Walk.{Item, item, fault, end, Walk, halted, walk_by, all_of}
use Rattle.text.specs.Line.{line_of}
use Rattle.text.specs.Title.{title_of}
use Rattle.text.specs.Answers.{Outcome, whole, faulty}

abbrev pub item_of : ℕ → Reading → Item
item_of e (found c next) = item (parts_of e c) next
item_of e (refused n at) = fault
item_of e ended = end

unfoldable pub records_from : ℕ → List ℕ → ℕ → Walk
records_from e s at = walk_by (length s) (λ (k : ℕ). item_of e (read_at e s k)) at

-- a header that is none is a fault at offset 0
unfoldable pub records_of : List ℕ → Walk
records_of s = pick (eqb (opening_of s).answer 0) (records_from (opening_of s).edition s (opening_of s).first) (halted true 0)

unfoldable pub lines_of : ℕ → Walk → List ℕ
lines_of e w = title_of e ++ all_of (line_of e) w.items

-- a malformed record is a fault at its tag's offset
unfoldable pub text_of : List ℕ → Outcome
text_of s = pick (records_of s).bad (faulty (records_of s).at) (whole (lines_of (opening_of s).edition (records_of s)))
