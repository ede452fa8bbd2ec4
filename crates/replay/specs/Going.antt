-- The invariant of the walk over the records from a place on: it replays, and it writes. Assumes nothing.
use Rattle.std.specs.Prelude.{◌≡◌, Bool, List, ℕ, ◌+◌, ◌≤◌, length}
use Rattle.std.proofs.Common.{ap, ◌∙◌}
use Rattle.refusal.specs.Refusal.{number, journal_malformed}
use Rattle.command.specs.declared.Command.{Command}
use Rattle.journal.specs.Answers.{found, refused, ended}
use Rattle.journal.specs.Format.{read_at}
use Rattle.sheet.specs.declared.Pen.{Pen}
use Rattle.sheet.specs.Sheet.{Wrote}
use Rattle.lines.specs.Lines.{answer_line, mark_line}
use Rattle.book.specs.declared.Book.{Book}
use Rattle.book.specs.declared.Step.{Step}
use Rattle.rules.specs.Model.{Model}
use Rattle.book.specs.Stored.{model_of}
use Rattle.replay.specs.declared.Outcome.{Outcome}
use Rattle.replay.specs.Replay.{Replayed, replay_from, outcome_of, ending}
use Rattle.replay.specs.Text.{book_text, text_of}
use Rattle.replay.specs.Standing.{Holds, Stepped}
use Rattle.replay.specs.Playing.{Playing, play_begins, plays_on, play_stops, play_ends}
use Rattle.replay.specs.Telling.{Telling, begins, goes_on, stops, ends}

pub record Going (ink : Bool) (s : List ℕ) (all : Replayed) (from : List ℕ) (start : Pen) (out : List ℕ) (at k : ℕ) (b : Book) (pen : Pen) : Type 0 where
  pub plays : Playing s (outcome_of 0 all) at k b
  pub tells : Telling ink s (text_of 0 all) from start out at k b pen

-- what the walk leaves
pub record Gone (ink : Bool) (all : Replayed) (from : List ℕ) (start : Pen) (out : List ℕ) (end : Outcome) (pen : Pen) : Type 0 where
  pub outcome : end ≡ outcome_of 0 all
  pub wrote : Wrote ink (text_of 0 all) from start out pen

pub going : {ink : Bool} {s : List ℕ} {first : ℕ} {m : Model} {from : List ℕ} {start : Pen} {b : Book} → first ≤ length s → Holds m b → Going ink s (replay_from s first m) from start from first 0 b start
going {s = s} {first = first} h f = record { plays = play_begins s first h f; tells = begins s h f }

module _ {ink : Bool} {s : List ℕ} {all : Replayed} {from : List ℕ} {start : Pen} {out : List ℕ} {at k : ℕ} {b : Book} {pen : Pen} (i : Going ink s all from start out at k b pen) where
  pub going_on : {c : Command} {next : ℕ} {t : Step} {l : List ℕ} {p : Pen} → read_at (model_of b).settings.edition s at ≡ found c next → Stepped (model_of b) c t
      → Wrote ink (answer_line (k + 1) t.answer) out pen l p → Going ink s all from start l next (k + 1) t.book p
  going_on d x w = record { plays = plays_on i.plays d x; tells = goes_on i.tells d x w }

  pub gone_bad : {n p : ℕ} {l m : List ℕ} {q r : Pen} {z : Book} {o : Outcome} → read_at (model_of b).settings.edition s at ≡ refused n p → z ≡ b → Wrote ink (mark_line (k + 1) p) out pen l q
      → (o ≡ ending z k (number journal_malformed) p) × Wrote ink (book_text (model_of z)) l q m r → Gone ink all from start m o r
  gone_bad {p = p} {l = l} {m = m} {q = q} {r = r} d h x y =
      record {
        outcome = y.0 ∙ ap (λ z. ending z k (number journal_malformed) p) h ∙ play_stops i.plays d;
        wrote = stops i.tells d x (rw h at y.1);
      }

  pub gone : {m : List ℕ} {r : Pen} {z : Book} {o : Outcome} → read_at (model_of b).settings.edition s at ≡ ended → z ≡ b → (o ≡ ending z k 0 0) × Wrote ink (book_text (model_of z)) out pen m r → Gone ink all from start m o r
  gone d h y = record { outcome = y.0 ∙ ap (λ z. ending z k 0 0) h ∙ play_ends i.plays d; wrote = ends i.tells d (rw h at y.1) }
