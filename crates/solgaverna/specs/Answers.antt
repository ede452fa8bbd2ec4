-- What the functions for C and Rust answer: a count, or minus the number of a refusal in two's complement. A journal goes in; one that is malformed gives 13.
use Rattle.std.specs.Prelude.{not, Option, Some, None, Result, List, ◌++◌, ℕ, ◌-◌, eqb, ltb, length, get_or, drop}
use Rattle.refusal.specs.Choice.{pick}
use Rattle.refusal.specs.Refusal.{number, invalid_input, journal_malformed, buffer_short}
use Rattle.refusal.specs.declared.Refusal.{Refusal}
use Rattle.lists.specs.Listing.{Reply, listed_says}
use Rattle.lists.specs.declared.Wanted.{Wanted}
use Rattle.book.specs.declared.Book.{Book}
use Rattle.book.specs.Stored.{model_of}
use Rattle.query.specs.Reads.{list_read}
use Rattle.query.specs.Questions.{answers_read}
use Rattle.asking.specs.Questions.{answers_of}
use Rattle.replay.specs.declared.Outcome.{Outcome}
use Rattle.replay.specs.Replay.{replay_of, outcome_of}
use Rattle.text.specs.Answers as Text

-- −n in two's complement
unfoldable pub minus : ℕ → ℕ
minus n = pick (eqb n 0) 0 (18446744073709551616 - n)

abbrev pub coded : ℕ → ℕ → ℕ
coded n count = pick (eqb n 0) count (minus n)

-- the code of a count or a refusal that is returned
abbrev pub code : Result ℕ Refusal → ℕ
code r = coded (listed_says r).0 (get_or (listed_says r).1 0 0)

-- what replay leaves of a journal
abbrev pub left : List ℕ → Outcome
left s = outcome_of 0 (replay_of s)

-- an answer about the book that a replay left, and the buffer after it; a malformed journal gives 13
unfoldable pub of_outcome : Outcome → List ℕ → (Book → ℕ × List ℕ) → ℕ × List ℕ
of_outcome o l answer = pick (eqb o.number 0) (answer o.book) (minus (number journal_malformed), l)

abbrev pub of_book : List ℕ → List ℕ → (Book → ℕ × List ℕ) → ℕ × List ℕ
of_book s l answer = of_outcome (left s) l answer

-- ── Lists of offers ──
abbrev pub told : Reply × List ℕ → ℕ × List ℕ
told r = (coded r.0.0 (get_or r.0.1 0 0), r.1)

unfoldable pub offers_for : Option Wanted → List ℕ → Book → ℕ × List ℕ
offers_for (Some w) l b = told (list_read b w l)
offers_for None l b = (minus (number invalid_input), l)

-- ── A read of four numbers over the start of a buffer; too short gives 14 ──
unfoldable pub four_over : Reply → List ℕ → ℕ × List ℕ
four_over r l =
    pick (not (eqb r.0 0)) (minus r.0, l)
    (pick (ltb (length l) 4) (minus (number buffer_short), l)
    (4, r.1 ++ drop 4 l))

-- ── The journal of a text, and the text of a journal ──────────────
-- how many bytes the other form is, for a buffer l
abbrev pub written : Text.Outcome → List ℕ → ℕ
written o l = coded (Text.answer_for o l).0 (Text.answer_for o l).1

-- the number of the first line that is no command, or no question; 0 where there is none
unfoldable pub fault_of : Text.Outcome → ℕ
fault_of (Text.whole w) = 0
fault_of (Text.faulty at) = at

-- the line that an answer names
abbrev pub line_of : ℕ × ℕ → ℕ
line_of a = pick (eqb a.0 (number journal_malformed)) a.1 0

-- ── Questions about the book of a journal ─────────────────────────
-- in text, one a line: how many bytes the answers are
abbrev pub text_for : List ℕ → List ℕ → Book → ℕ × List ℕ
text_for t l b = (written (answers_of (model_of b) t) l, Text.left_for (answers_of (model_of b) t) l)

-- lookups, three words each: how many were answered
abbrev pub words_for : List ℕ → List ℕ → Book → ℕ × List ℕ
words_for words l b = told (answers_read b words l)
