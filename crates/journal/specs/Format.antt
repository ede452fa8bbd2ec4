-- Document 01, "Journal and replay": the header, what stands at a place of a journal, and the bytes of a command.
use Rattle.std.specs.Prelude.{Bool, true, ◌&&◌, List, [], ◌∷◌, ◌++◌, ℕ, ◌+◌, ◌*◌, length, get_or, drop, set, replicate, leb, Option, Some, None}
use Rattle.refusal.specs.Choice.{pick}
use Rattle.refusal.specs.Refusal.{number, buffer_short}
use Rattle.edition.specs.Edition.{listed}
use Rattle.command.specs.declared.Command.{Command}
use Rattle.wire.specs.Field.{number_at, bytes_of, begins, field_of}
use Rattle.journal.specs.Answers.{Opening, good_header, bad_header, Reading, ended, malformed}
use Rattle.journal.specs.Table.{fields_of, top_of, named, made, parts_of}

-- first comes tag 10, length 2 and the edition; anything else, and an edition that there is not, gives 13 at offset 0. The records follow
unfoldable pub header_of : ℕ → List ℕ
header_of e = field_of 0x10 (bytes_of 2 e)

abbrev pub edition_in : List ℕ → ℕ
edition_in s = number_at 2 (drop 3 s)

unfoldable pub opening_of : List ℕ → Opening
opening_of s = pick (begins 0x10 2 s && listed (edition_in s)) (good_header (edition_in s) 5) (bad_header 0)

-- b begins with the field f of eight bytes, its number in range; and with these fields, one after the other
unfoldable pub field_in : ℕ → List ℕ → Bool
field_in f b = begins f 8 b && leb (number_at 8 (drop 3 b)) (top_of f)

unfoldable pub well_in : List ℕ → List ℕ → Bool
well_in [] b = true
well_in (f ∷ fs) b = field_in f b && well_in fs (drop 11 b)

-- v with the numbers of the fields that b begins with, each at the place of its tag
unfoldable pub numbers_in : List ℕ → List ℕ → List ℕ → List ℕ
numbers_in v [] b = v
numbers_in v (f ∷ fs) b = numbers_in (set v f (number_at 8 (drop 3 b))) fs (drop 11 b)

abbrev pub zeros : List ℕ
zeros = replicate 32 0

-- the numbers where the fields stand there
unfoldable pub gathered_in : List ℕ → List ℕ → Option (List ℕ)
gathered_in fs b = pick (well_in fs b) (Some (numbers_in zeros fs b)) None

-- what stands at a place in an edition: a record of tag t with exactly the fields fs, or 13 at the tag
unfoldable pub record_at : ℕ → ℕ → List ℕ → List ℕ → ℕ → Reading
record_at e t fs b at =
    pick (begins t (11 * length fs) b && well_in fs (drop 3 b))
    (made e t (named (numbers_in zeros fs (drop 3 b))) at (at + (3 + 11 * length fs)))
    (malformed at)

unfoldable pub read_at : ℕ → List ℕ → ℕ → Reading
read_at e s at = pick (leb (length s) at) ended (record_at e (get_or s at 0) (fields_of e (get_or s at 0)) (drop at s) at)

-- fields with their numbers, one after the other; the record of a tag and its numbers; and the bytes of a command
unfoldable pub fields_out : List ℕ → List ℕ → List ℕ
fields_out [] vs = []
fields_out (f ∷ fs) vs = field_of f (bytes_of 8 (get_or vs 0 0)) ++ fields_out fs (drop 1 vs)

abbrev pub record_of : ℕ → ℕ → List ℕ → List ℕ
record_of e t vs = field_of t (fields_out (fields_of e t) vs)

unfoldable pub bytes_for : ℕ → Command → List ℕ
bytes_for e c = record_of e (parts_of e c).0 (parts_of e c).1

-- what writing w into l at a place answers: the number of bytes, or 14
unfoldable pub writing : ℕ → List ℕ → List ℕ → ℕ × ℕ
writing at w l = pick (leb (at + length w) (length l)) (0, length w) (number buffer_short, 0)
