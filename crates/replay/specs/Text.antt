-- Document 01, "Journal and replay": all that a replay prints, and what the listing into a lent buffer answers and leaves.
use Rattle.std.specs.Prelude.{List, [], ◌∷◌, ◌++◌, ℕ, suc, ◌+◌, length}
use Rattle.refusal.specs.Choice.{pick}
use Rattle.refusal.specs.Refusal.{number, buffer_short, book_unsound}
use Rattle.sheet.specs.Shown.{listed_in, shown_in}
use Rattle.lines.specs.Lines.{edition_line, answer_line, mark_line, account_lines, totals_line}
use Rattle.book.specs.declared.Book.{Book}
use Rattle.book.specs.Stored.{model_of, book_test}
use Rattle.rules.specs.Model.{Model, fresh_model}
use Rattle.replay.specs.Replay.{Stop, at_end, at_header, at_record, Replayed, headed, replay_on, edition_of}
use Rattle.replay.specs.declared.Listed.{Listed}
use Rattle.replay.specs.declared.Listed.TheVariants.{Done, Short, Unsound}

-- the answers, numbered from n on
unfoldable pub answer_lines : ℕ → List ℕ → List ℕ
answer_lines n [] = []
answer_lines n (a ∷ more) = answer_line n a ++ answer_lines (suc n) more

-- a malformed record, where it is the n-th; a bad header has the number 0
unfoldable pub stop_line : ℕ → Stop → List ℕ
stop_line n at_end = []
stop_line n at_header = mark_line 0 0
stop_line n (at_record at) = mark_line n at

-- the accounts and totals follow
unfoldable pub book_text : Model → List ℕ
book_text m = account_lines m.accounts ++ totals_line m.totals

-- what is printed of a replay where k records were answered before
unfoldable pub text_of : ℕ → Replayed → List ℕ
text_of k r = answer_lines (suc k) r.answers ++ (stop_line (suc (k + length r.answers)) r.stop ++ book_text r.model)

-- before it, the edition, where the journal's header is good and names it (document 02, e)
unfoldable pub opening_line : ℕ → List ℕ → List ℕ
opening_line e s = pick (headed e s) (edition_line e) []

-- from any book, and from a fresh one of the journal's edition
unfoldable pub listing_on : Model → List ℕ → List ℕ
listing_on m s = opening_line m.settings.edition s ++ text_of 0 (replay_on m s)

unfoldable pub listing_of : List ℕ → List ℕ
listing_of s = listing_on (fresh_model (edition_of s)) s

-- the answer's number, and how many bytes were written
abbrev pub listing_says : Listed → ℕ × ℕ
listing_says (Done n) = (0, n)
listing_says Short = (number buffer_short, 0)
listing_says Unsound = (number book_unsound, 0)

-- what `listing_from` answers, and the buffer after it: 15 and the buffer as it was where the book is not sound
unfoldable pub listed_from : Book → List ℕ → List ℕ → ℕ × ℕ
listed_from b s l = pick (book_test b) (listed_in (listing_on (model_of b) s) l) (number book_unsound, 0)

unfoldable pub shown_from : Book → List ℕ → List ℕ → List ℕ
shown_from b s l = pick (book_test b) (shown_in (listing_on (model_of b) s) l) l
