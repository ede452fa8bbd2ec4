-- What the functions on snapshots answer, and the buffer after it. A snapshot that is refused gives its refusal, 13 or 15; then a journal that is malformed, or of
-- another edition than the snapshot's, gives 13; then a buffer that is too short 14.
use Rattle.std.specs.Prelude.{List, ℕ, eqb}
use Rattle.refusal.specs.Choice.{pick}
use Rattle.refusal.specs.Refusal.{number, journal_malformed}
use Rattle.sheet.specs.Shown.{listed_in, shown_in}
use Rattle.book.specs.declared.Book.{Book}
use Rattle.book.specs.Stored.{model_of}
use Rattle.replay.specs.Replay.{replay_on, outcome_of}
use Rattle.replay.specs.Text.{listing_on}
use Rattle.snapshot.specs.declared.Loaded.{Loaded}
use Rattle.snapshot.specs.Snapshot.{snapshot_of, reading}
use Rattle.solgaverna.specs.Answers.{minus, coded, of_outcome}

-- bytes in a lent buffer
abbrev pub in_buffer : List ℕ → List ℕ → ℕ × List ℕ
in_buffer w l = (coded (listed_in w l).0 (listed_in w l).1, shown_in w l)

-- a book's snapshot, and the listing of a journal on a book
abbrev pub snapshot_for : List ℕ → Book → ℕ × List ℕ
snapshot_for l b = in_buffer (snapshot_of (model_of b)) l

abbrev pub listing_for : List ℕ → List ℕ → Book → ℕ × List ℕ
listing_for s l b = in_buffer (listing_on (model_of b) s) l

-- an answer about the book of a snapshot
unfoldable pub of_snapshot : List ℕ → List ℕ → (Book → ℕ × List ℕ) → ℕ × List ℕ
of_snapshot f l answer = pick (eqb (reading f).number 0) (answer (reading f).book) (minus (reading f).number, l)

-- an answer about the book that a journal leaves of another
abbrev pub after : List ℕ → List ℕ → (Book → ℕ × List ℕ) → Book → ℕ × List ℕ
after s l answer b = of_outcome (outcome_of 0 (replay_on (model_of b) s)) l answer

-- where a snapshot is malformed: the offset of its first wrong field, 2^64 − 1 where none is wrong
unfoldable pub wrong_field : Loaded → ℕ
wrong_field r = pick (eqb r.number (number journal_malformed)) r.at 18446744073709551615
