-- Document 02, requests a and f: what writing a book answers and leaves, and what reading bytes answers.
use Rattle.std.specs.Prelude.{◌≡◌, Bool, List, ◌++◌, ℕ, ◌≤◌, leb, length, drop}
use Rattle.refusal.specs.Choice.{pick}
use Rattle.refusal.specs.Refusal.{number, buffer_short, book_unsound}
use Rattle.edition.specs.Edition.{first_edition, unnamed_edition}
use Rattle.rules.specs.Model.{Model, fresh_model}
use Rattle.book.specs.declared.Book.{Book}
use Rattle.book.specs.Stored.{model_of, stored, book_test, Shelved}
use Rattle.wire.specs.Field.{begins}
use Rattle.codec.specs.Codec.{Got}
use Rattle.codec.specs.Whole.{Reading, loaded, refused, closing}
use Rattle.snapshot.specs.Layout.{fields, layout}
use Rattle.snapshot.specs.declared.Loaded.{Loaded}
use Rattle.snapshot.specs.declared.Written.{Written}

-- ── Writing ───────────────────────────────────────────────────────
unfoldable pub snapshot_of : Model → List ℕ
snapshot_of m = layout.out m

abbrev pub written : ℕ → ℕ → Written
written n size = record { number = n; size = size }

-- 15 for an unsound book, then 14 without room, both with the buffer as it was; else the fields, and what stood past them
unfoldable pub writing : Book → List ℕ → Written × List ℕ
writing b l =
    let w = snapshot_of (model_of b) in
    pick (book_test b)
    (pick (leb (length w) (length l)) (written 0 (length w), w ++ drop (length w) l) (written (number buffer_short) 0, l))
    (written (number book_unsound) 0, l)

-- a full book's has so many bytes
abbrev pub snapshot_most : ℕ
snapshot_most = 79002

-- what `write` ensures: the answer and the buffer; of a book that was written, that each number fits its field and each array is a table; and that a buffer which holds a full book's is
-- never short
pub record Saved (b : Book) (l : List ℕ) (r : Written) (m : List ℕ) : Type 0 where
  pub is : (r, m) ≡ writing b l
  pub fits : r.number ≡ 0 → layout.Fits (model_of b)
  pub shelved : r.number ≡ 0 → Shelved b
  pub room : snapshot_most ≤ length l → r.number ≡ number buffer_short → ⊥

-- ── Reading ───────────────────────────────────────────────────────
unfoldable pub sound_in : Model → Bool
sound_in m = book_test (stored m)

-- the edition that the first field names, 13 at 0 where it is not listed; without that field the one that names none
abbrev pub named : List ℕ → Bool
named s = begins 0x10 8 s

unfoldable pub book_in : List ℕ → Got Model
book_in s = pick (named s) (layout.into s 0) ((fields unnamed_edition).into s 0)

-- 13 at the first wrong field, 15 at once for a count past its limit; with all fields there, 15 for a book that is not sound, else its model
unfoldable pub model_in : List ℕ → Reading Model
model_in s = closing sound_in (length s) (book_in s)

-- a refusal comes with the first edition's fresh book
unfoldable pub loaded_as : Reading Model → Loaded
loaded_as (loaded m) = record { number = 0; at = 0; book = stored m }
loaded_as (refused n at) = record { number = n; at = at; book = stored (fresh_model first_edition) }

unfoldable pub reading : List ℕ → Loaded
reading s = loaded_as (model_in s)
