-- The text of a replay, line by line. Assumes nothing.
use Rattle.std.specs.Prelude.{◌≡◌, refl, ◌++◌, ℕ, suc, ◌+◌, length}
use Rattle.std.proofs.Common.{append_assoc, arith, add-zero, add-one}
use Rattle.lines.specs.Lines.{answer_line, mark_line}
use Rattle.rules.specs.Model.{Model}
use Rattle.replay.specs.Replay.{at_end, at_header, at_record, Replayed, halted, heard}
use Rattle.replay.specs.Text.{answer_lines, stop_line, book_text, text_of}

-- one answer more
pub text_heard : (k a : ℕ) (r : Replayed) → text_of k (heard a r) ≡ answer_line (k + 1) a ++ text_of (k + 1) r
unfolding text_of answer_lines
text_heard k a r =
    let e : k + suc (length r.answers) ≡ suc k + length r.answers = omega arith in
    rw (add-one k, e) (append_assoc (answer_line (suc k) a) (answer_lines (suc (suc k)) r.answers) (stop_line (suc (suc k + length r.answers)) r.stop ++ book_text r.model))

pub text_bad : (k at : ℕ) (m : Model) → text_of k (halted (at_record at) m) ≡ mark_line (k + 1) at ++ book_text m
unfolding text_of answer_lines stop_line
text_bad k at m = rw (add-one k, add-zero k)

pub text_bare : (m : Model) → text_of 0 (halted at_header m) ≡ mark_line 0 0 ++ book_text m
unfolding text_of answer_lines stop_line
text_bare m = refl

pub text_end : (k : ℕ) (m : Model) → text_of k (halted at_end m) ≡ book_text m
unfolding text_of answer_lines stop_line
text_end k m = refl
