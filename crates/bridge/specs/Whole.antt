-- What bytes that hold one record, and nothing after it, do to a book: the command's answer, or 13 and the book as it was.
use Rattle.std.specs.Prelude.{ℕ, eqb}
use Rattle.refusal.specs.Choice.{pick}
use Rattle.refusal.specs.Refusal.{number, journal_malformed}
use Rattle.journal.specs.Answers.{Reading, found, refused, ended}
use Rattle.book.specs.declared.Book.{Book}
use Rattle.book.specs.declared.Step.{Step}
use Rattle.book.specs.Stored.{answers}

abbrev pub refused_by : Book → Step
refused_by b = record { answer = number journal_malformed; book = b }

-- what stands at the start, of so many bytes
unfoldable pub whole_record : Book → Reading → ℕ → Step
whole_record b (found c next) n = pick (eqb next n) (answers b c) (refused_by b)
whole_record b (refused k at) n = refused_by b
whole_record b ended n = refused_by b
