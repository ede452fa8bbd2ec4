-- Document 02, k: what a rescue keeps of a journal, what it drops and where, what it leaves, and what it answers.
use Rattle.std.specs.Prelude.{Bool, true, false, not, ◌&&◌, List, [], ◌∷◌, ◌++◌, ℕ, zero, suc, ◌+◌, length, take, drop, eqb, leb, Result, Ok, Err}
use Rattle.refusal.specs.Choice.{pick}
use Rattle.refusal.specs.Refusal.{number, journal_malformed, buffer_short, ◌gives◌, first}
use Rattle.refusal.specs.Placed.{placed}
use Rattle.wire.specs.Field.{number_at}
use Rattle.journal.specs.Answers.{Reading, found, refused, ended}
use Rattle.journal.specs.Format.{opening_of, read_at}
use Rattle.refusal.specs.declared.Refusal.{Refusal}
use Rattle.rescue.specs.declared.Clean.{Clean}

-- the size of the outer field that b begins with: tag, length and inside. A length that is cut counts as 0
unfoldable pub outer : List ℕ → ℕ
outer b = 3 + number_at 2 (drop 1 b)

-- the field fits in what remains; where its length is cut not even the three bytes of tag and length do
unfoldable pub fits : List ℕ → Bool
fits b = leb (outer b) (length b)

-- a record of the edition stands at the place
abbrev pub is_record : Reading → Bool
is_record (found c next) = true
is_record (refused n at) = false
is_record ended = false

unfoldable pub stands : ℕ → List ℕ → ℕ → Bool
stands e s at = is_record (read_at e s at)

-- an outer field that fits: its offset, whether it is kept, and its bytes
pub record Piece : Type 0 where
  pub at : ℕ
  pub good : Bool
  pub bytes : List ℕ

abbrev pub piece_at : ℕ → List ℕ → ℕ → Piece
piece_at e s at = record { at = at; good = stands e s at; bytes = take (outer (drop at s)) (drop at s) }

-- the pieces from a place on, up to the first that does not fit; at most n. Any n that reaches the end gives the same (`enough`, rescue/Walk)
unfoldable pub pieces_by : ℕ → ℕ → List ℕ → ℕ → List Piece
pieces_by zero e s at = []
pieces_by (suc n) e s at = pick (fits (drop at s)) (piece_at e s at ∷ pieces_by n e s (at + outer (drop at s))) []

unfoldable pub pieces_from : ℕ → List ℕ → ℕ → List Piece
pieces_from e s at = pieces_by (length s) e s at

-- the bytes of the pieces; those of the kept, those of the dropped, and the offsets of the dropped
unfoldable pub bytes_in : List Piece → List ℕ
bytes_in [] = []
bytes_in (p ∷ ps) = p.bytes ++ bytes_in ps

unfoldable pub kept_in : List Piece → List ℕ
kept_in [] = []
kept_in (p ∷ ps) = pick p.good p.bytes [] ++ kept_in ps

unfoldable pub lost_in : List Piece → List ℕ
lost_in [] = []
lost_in (p ∷ ps) = pick p.good [] p.bytes ++ lost_in ps

unfoldable pub dropped_in : List Piece → List ℕ
dropped_in [] = []
dropped_in (p ∷ ps) = pick p.good [] (p.at ∷ []) ++ dropped_in ps

-- of a whole journal: its records follow the five bytes of its header, and are read in the edition that the header names
unfoldable pub opens : List ℕ → Bool
opens s = eqb (opening_of s).answer 0

unfoldable pub pieces_of : List ℕ → List Piece
pieces_of s = pieces_from (opening_of s).edition s 5

unfoldable pub clean_of : List ℕ → List ℕ
clean_of s = take 5 s ++ kept_in (pieces_of s)

unfoldable pub report_of : List ℕ → List ℕ
report_of s = dropped_in (pieces_of s)

unfoldable pub left_of : List ℕ → List ℕ
left_of s = drop (5 + length (bytes_in (pieces_of s))) s

-- a journal that is undamaged: its header is good, and each record is read up to its end
abbrev pub to_end : (ℕ → Bool) → Reading → Bool
to_end rest (found c next) = rest next
to_end rest (refused n at) = false
to_end rest ended = true

unfoldable pub whole_by : ℕ → ℕ → List ℕ → ℕ → Bool
whole_by zero e s at = leb (length s) at
whole_by (suc n) e s at = to_end (whole_by n e s) (read_at e s at)

unfoldable pub undamaged : List ℕ → Bool
undamaged s = opens s && whole_by (length s) (opening_of s).edition s 5

-- 13 for a bad header, then 14 for an output shorter than the input or a report without room for every dropped offset
unfoldable pub number_for : List ℕ → List ℕ → List ℕ → ℕ
number_for s out report =
    first
    ((not (opens s) gives journal_malformed) ∷ (not (leb (length s) (length out)) gives buffer_short) ∷ (not (leb (length (report_of s)) (length report)) gives buffer_short) ∷ [])

-- a number; how many bytes the clean journal has, how many records were dropped, how many bytes are left
pub record Answer : Type 0 where
  pub number : ℕ
  pub size : ℕ
  pub dropped : ℕ
  pub left : ℕ

abbrev pub answer : ℕ → ℕ → ℕ → ℕ → Answer
answer n size dropped left = record { number = n; size = size; dropped = dropped; left = left }

abbrev pub said : Result Clean Refusal → Answer
said (Ok c) = answer 0 c.size c.dropped c.left
said (Err r) = answer (number r) 0 0 0

-- WHAT A RESCUE ANSWERS, and the two buffers at its end: as they were wherever it refuses
unfoldable pub answer_for : List ℕ → List ℕ → List ℕ → Answer
answer_for s out report =
    pick (eqb (number_for s out report) 0) (answer 0 (length (clean_of s)) (length (report_of s)) (length (left_of s))) (answer (number_for s out report) 0 0 0)

unfoldable pub out_for : List ℕ → List ℕ → List ℕ → List ℕ
out_for s out report = pick (eqb (number_for s out report) 0) (placed 0 (clean_of s) out) out

unfoldable pub report_for : List ℕ → List ℕ → List ℕ → List ℕ
report_for s out report = pick (eqb (number_for s out report) 0) (placed 0 (report_of s) report) report
