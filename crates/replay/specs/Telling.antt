-- The walk writes: what is still to come, written from here on, completes the text. Assumes nothing.
use Rattle.std.specs.Prelude.{◌≡◌, Bool, false, List, ◌++◌, ℕ, ◌+◌, ◌≤◌, length}
use Rattle.std.proofs.Common.{sym, ap, ◌∙◌}
use Rattle.refusal.specs.Choice.{pick}
use borrow.Author.Tests.{eq-eqb}
use Rattle.command.specs.declared.Command.{Command}
use Rattle.journal.specs.Answers.{good_header, found, refused, ended}
use Rattle.journal.specs.Format.{opening_of, read_at}
use Rattle.sheet.specs.declared.Pen.{Pen}
use Rattle.sheet.specs.Sheet.{Wrote}
use Rattle.sheet.specs.SheetLaws.{next, retext}
use Rattle.lines.specs.Lines.{edition_line, answer_line, mark_line}
use Rattle.book.specs.declared.Book.{Book}
use Rattle.book.specs.declared.Step.{Step}
use Rattle.rules.specs.Model.{Model}
use Rattle.book.specs.Stored.{model_of}
use Rattle.replay.specs.Replay.{replay_from, headed}
use Rattle.replay.specs.Text.{book_text, text_of, opening_line, listing_on}
use Rattle.replay.specs.ReplayLaws.{replay_headed, replay_bare, from_record, from_bad, from_end}
use Rattle.replay.specs.TextLaws.{text_heard, text_bad, text_bare, text_end}
use Rattle.replay.specs.Standing.{Holds, Standing, Stepped, stands, stands_on}

pub record Telling (ink : Bool) (s text from : List ℕ) (start : Pen) (out : List ℕ) (at k : ℕ) (b : Book) (pen : Pen) : Type 0 where
  pub stand : Standing s at k b
  pub completes : (l : List ℕ) (q : Pen) → Wrote ink (text_of k (replay_from s at (model_of b))) out pen l q → Wrote ink text from start l q

module _ {ink : Bool} {from : List ℕ} {start : Pen} where
  module _ (b : Book) (s : List ℕ) {l m : List ℕ} {p q : Pen} where
    -- the book's edition: its line, and then the records
    pub tells_headed : {e at : ℕ} → opening_of s ≡ good_header e at → e ≡ b.settings.edition → Wrote ink (edition_line e) from start l p
        → Wrote ink (text_of 0 (replay_from s at (model_of b))) l p m q → Wrote ink (listing_on (model_of b) s) from start m q
    unfolding listing_on opening_line headed pick
    tells_headed {e} o t x y = rw (replay_headed (model_of b) s o t, o, eq-eqb e b.settings.edition t) (next (rw t at x) y)

    -- a header that is bad, or another edition's
    pub tells_bare : headed b.settings.edition s ≡ false → Wrote ink (mark_line 0 0) from start l p → Wrote ink (book_text (model_of b)) l p m q → Wrote ink (listing_on (model_of b) s) from start m q
    unfolding listing_on opening_line pick
    tells_bare h x y = rw (replay_bare (model_of b) s h, h, text_bare) (next x y)

  pub begins : (s : List ℕ) {at : ℕ} {m : Model} {b : Book} → at ≤ length s → Holds m b → Telling ink s (text_of 0 (replay_from s at m)) from start from at 0 b start
  begins s h f = record { stand = stands h f; completes = λ l q w. rw f.model at w }

module _ {ink : Bool} {s text from : List ℕ} {start : Pen} {out : List ℕ} {at k : ℕ} {b : Book} {pen : Pen} (i : Telling ink s text from start out at k b pen) where
  pub goes_on : {c : Command} {after : ℕ} {t : Step} {l : List ℕ} {p : Pen} → read_at (model_of b).settings.edition s at ≡ found c after → Stepped (model_of b) c t
      → Wrote ink (answer_line (k + 1) t.answer) out pen l p → Telling ink s text from start l after (k + 1) t.book p
  goes_on {c} {after} {t} d e w =
      let x : text_of k (replay_from s at (model_of b)) ≡ answer_line (k + 1) t.answer ++ text_of (k + 1) (replay_from s after (model_of t.book)) =
      rw (e.answer, e.model, from_record s at (model_of b) d) (text_heard k _ _) in
      record { stand = stands_on i.stand d e; completes = λ m q y. i.completes m q (retext (next w y) (sym x)) }

  pub stops : {n p : ℕ} {l m : List ℕ} {q r : Pen} → read_at (model_of b).settings.edition s at ≡ refused n p → Wrote ink (mark_line (k + 1) p) out pen l q → Wrote ink (book_text (model_of b)) l q m r
      → Wrote ink text from start m r
  stops {m = m} {r = r} d x y = i.completes m r (retext (next x y) (sym (ap (text_of k) (from_bad s at (model_of b) d) ∙ text_bad k _ (model_of b))))

  pub ends : {m : List ℕ} {r : Pen} → read_at (model_of b).settings.edition s at ≡ ended → Wrote ink (book_text (model_of b)) out pen m r → Wrote ink text from start m r
  ends {m} {r} d y = i.completes m r (retext y (sym (ap (text_of k) (from_end s at (model_of b) d) ∙ text_end k (model_of b))))
