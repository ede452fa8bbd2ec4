-- The journal of a text: the header of its edition, and the records of its lines in order.
use Rattle.std.specs.Prelude.{List, ◌++◌, ℕ, suc, ◌+◌, length}
use Rattle.refusal.specs.Choice.{pick}
use Rattle.journal.specs.Format.{header_of, record_of}
use Rattle.text.specs.Walk.{Walk, walk_by, all_of}
use Rattle.text.specs.Reading.{command_at}
use Rattle.text.specs.Title.{title_in}
use Rattle.text.specs.Answers.{Outcome, whole, faulty}

unfoldable pub lines_from : ℕ → List ℕ → ℕ → Walk
lines_from e t at = walk_by (length t) (command_at e t) at

unfoldable pub lines_in : List ℕ → Walk
lines_in t = lines_from (title_in t).edition t (title_in t).next

unfoldable pub record_for : ℕ → ℕ × List ℕ → List ℕ
record_for e x = record_of e x.0 x.1

unfoldable pub bytes_from : ℕ → Walk → List ℕ
bytes_from e w = header_of e ++ all_of (record_for e) w.items

-- a line that is none is a fault by its number, from 1, past n others
unfoldable pub fault_line : ℕ → Walk → ℕ
fault_line n w = pick w.bad (suc (n + length w.items)) 0

unfoldable pub journal_of : List ℕ → Outcome
journal_of t = pick (lines_in t).bad (faulty (fault_line (title_in t).lines (lines_in t))) (whole (bytes_from (title_in t).edition (lines_in t)))
