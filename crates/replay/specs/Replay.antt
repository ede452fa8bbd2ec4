-- Document 01, "Journal and replay": the commands of a journal obeyed in turn, with each answer, and where replay stops; from a fresh book of its edition, or from one that
-- is given (document 02, a).
use Rattle.std.specs.Prelude.{Bool, ◌&&◌, List, [], ◌∷◌, ℕ, zero, suc, ◌+◌, eqb, length}
use Rattle.refusal.specs.Choice.{pick}
use Rattle.refusal.specs.Refusal.{number, journal_malformed, book_unsound}
use Rattle.edition.specs.Edition.{first_edition}
use Rattle.journal.specs.Answers.{Reading, found, refused, ended}
use Rattle.journal.specs.Format.{opening_of, read_at}
use Rattle.book.specs.declared.Book.{Book}
use Rattle.rules.specs.Model.{Model, fresh_model}
use Rattle.soundness.specs.Played.{answer_to, obeyed}
use Rattle.book.specs.Stored.{model_of, stored, book_test}
use Rattle.replay.specs.declared.Outcome.{Outcome}

-- replay stops at the journal's end, at a header that is bad or another edition's, or at a malformed record, whose tag is at an offset
pub data Stop : Type 0 where
  at_end : Stop
  at_header : Stop
  at_record : ℕ → Stop

pub record Replayed : Type 0 where
  pub answers : List ℕ
  pub model : Model
  pub stop : Stop

abbrev pub halted : Stop → Model → Replayed
halted e m = record { answers = []; model = m; stop = e }

abbrev pub heard : ℕ → Replayed → Replayed
heard a r = record { answers = a ∷ r.answers; model = r.model; stop = r.stop }

-- what stands at a place, and then the rest. A malformed record leaves the book as after the record before
abbrev pub follow : (ℕ → Model → Replayed) → Model → Reading → Replayed
follow rest m (found c next) = heard (answer_to m c) (rest next (obeyed m c))
follow rest m (refused n at) = halted (at_record at) m
follow rest m ended = halted at_end m

-- at most n records, read in the book's edition: a journal has fewer records than bytes (`enough`)
unfoldable pub replay_by : ℕ → List ℕ → ℕ → Model → Replayed
replay_by zero s at m = halted at_end m
replay_by (suc n) s at m = follow (replay_by n s) m (read_at m.settings.edition s at)

unfoldable pub replay_from : List ℕ → ℕ → Model → Replayed
replay_from s at m = replay_by (length s) s at m

-- whether a journal's header is good and names an edition
unfoldable pub headed : ℕ → List ℕ → Bool
headed e s = eqb (opening_of s).answer 0 && eqb (opening_of s).edition e

-- from any book: a header that is bad or names another edition than the book's leaves the book as it was
unfoldable pub replay_on : Model → List ℕ → Replayed
replay_on m s = pick (headed m.settings.edition s) (replay_from s (opening_of s).first m) (halted at_header m)

-- the edition that the header names, the first where it is bad; and from a fresh book of it
unfoldable pub edition_of : List ℕ → ℕ
edition_of s = pick (eqb (opening_of s).answer 0) (opening_of s).edition first_edition

unfoldable pub replay_of : List ℕ → Replayed
replay_of s = replay_on (fresh_model (edition_of s)) s

-- what `replay` answers, where k records were answered before: 0, or 13 and the offset
abbrev pub stop_number : Stop → ℕ
stop_number at_end = 0
stop_number at_header = number journal_malformed
stop_number (at_record at) = number journal_malformed

abbrev pub stop_offset : Stop → ℕ
stop_offset at_end = 0
stop_offset at_header = 0
stop_offset (at_record at) = at

unfoldable pub outcome_of : ℕ → Replayed → Outcome
outcome_of k r = record { book = stored r.model; count = k + length r.answers; number = stop_number r.stop; at = stop_offset r.stop }

abbrev pub ending : Book → ℕ → ℕ → ℕ → Outcome
ending b k n at = record { book = b; count = k; number = n; at = at }

-- what `replay_from` answers: 15 and the very book where it is not sound
unfoldable pub replayed_from : Book → List ℕ → Outcome
replayed_from b s = pick (book_test b) (outcome_of 0 (replay_on (model_of b) s)) (ending b 0 (number book_unsound) 0)
