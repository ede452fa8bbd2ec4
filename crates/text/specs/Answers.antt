-- What a translation gives, and what is answered of it for a lent buffer: document 01's number and values for each case.
use Rattle.std.specs.Prelude.{List, ℕ}
use Rattle.sheet.specs.Shown.{listed_in, shown_in}
use Rattle.refusal.specs.Refusal.{number, journal_malformed, buffer_short}
use Rattle.text.specs.declared.Answer.{Answer}
use Rattle.text.specs.declared.Answer.TheVariants.{Done, Malformed, Short}

-- the other form, or the place of the fault
pub data Outcome : Type 0 where
  whole : List ℕ → Outcome
  faulty : ℕ → Outcome

-- a number, and how many bytes were written or the place of the fault
abbrev pub answered : Answer → ℕ × ℕ
answered (Done n) = (0, n)
answered (Malformed at) = (number journal_malformed, at)
answered Short = (number buffer_short, 0)

-- the answer for an outcome and a buffer l, and the buffer after it: all of it and what stood past it, or l as it was
unfoldable pub answer_for : Outcome → List ℕ → ℕ × ℕ
answer_for (whole w) l = listed_in w l
answer_for (faulty at) l = (number journal_malformed, at)

unfoldable pub left_for : Outcome → List ℕ → List ℕ
left_for (whole w) l = shown_in w l
left_for (faulty at) l = l
