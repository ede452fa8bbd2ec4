-- The questions that can be asked of a book in text, and what is answered to each. A question's tag stands for its name (crate text): 61 to 66 are the lists
-- 1 to 6 of `wanted_of`, 71 to 7D the codes 1 to 13 of `questions` (crate query; 75, a deadline, has no name), 7E an active total, 7F a negotiation.
use Rattle.std.specs.Prelude.{ℕ, ◌-◌, Option, Some, None, Result, Ok, Err, List, [], ◌∷◌, ◌++◌, length, get_or, eqb, ltb}
use Rattle.refusal.specs.Choice.{pick}
use Rattle.refusal.specs.Refusal.{number, invalid_input, journal_malformed, buffer_short, book_unsound}
use Rattle.table.specs.Tables.{Table}
use Rattle.offer.specs.declared.Offer.{Offer}
use Rattle.negotiation.specs.declared.Negotiation.{Negotiation}
use Rattle.lists.specs.declared.Wanted.{Wanted}
use Rattle.lists.specs.Wanted.{known, wanted_of}
use Rattle.lists.specs.Listing.{Reply, listing}
use Rattle.rules.specs.Model.{Model}
use Rattle.book.specs.declared.Book.{Book}
use Rattle.book.specs.Stored.{model_of, book_test}
use Rattle.query.specs.Reads.{offers_in, active_read, negotiation_read}
use Rattle.query.specs.Questions.{reply_to}
use Rattle.text.specs.Walk.{Walk, walk_by, all_of}
use Rattle.text.specs.Reading.{question_at}
use Rattle.text.specs.Journal.{fault_line}
use Rattle.text.specs.Answers.{Outcome, whole, faulty, answer_for, left_for}
use Rattle.asking.specs.declared.AskError.{AskError}
use Rattle.asking.specs.declared.AskError.TheVariants.{NoQuestion, Short, Unsound}
use Rattle.asking.specs.Answers.{row_of, reply_line, offer_lines, round_lines}

-- offers: how many, and a line of ten numbers each; 3 for a status that is not listed
unfoldable pub list_text : Option Wanted → Table Offer → List ℕ
list_text (Some w) t = pick (known w) (row_of (0 ∷ length (listing w t) ∷ []) ++ offer_lines w t) (row_of (number invalid_input ∷ []))
list_text None t = row_of (number invalid_input ∷ [])

-- `0 none` where there is no schedule
unfoldable pub none_or : List ℕ → List ℕ → List ℕ
none_or [] line = 48 ∷ 32 ∷ 110 ∷ 111 ∷ 110 ∷ 101 ∷ 10 ∷ []
none_or (v ∷ vs) line = line

abbrev pub schedule_text : Reply → List ℕ
schedule_text r = none_or r.1 (reply_line r)

-- a negotiation: how many rounds, its deadline and its outcome, and a line for each round
unfoldable pub negotiation_text : Negotiation → List ℕ
negotiation_text g = row_of (0 ∷ g.len ∷ g.deadline ∷ g.outcome ∷ []) ++ round_lines g

unfoldable pub answer_text : Model → ℕ → ℕ → ℕ → List ℕ
answer_text m tag a b =
    pick (ltb tag 0x70) (list_text (wanted_of (tag - 0x60) a b) (offers_in m))
    (pick (eqb tag 0x74) (schedule_text (reply_to 4 a b m))
    (pick (eqb tag 0x7E) (row_of (0 ∷ (active_read a m).done))
    (pick (eqb tag 0x7F) (negotiation_text (negotiation_read a m).done)
    (reply_line (reply_to (tag - 0x70) a b m)))))

-- ── Questions, one a line ──
unfoldable pub questions_in : List ℕ → Walk
questions_in t = walk_by (length t) (question_at t) 0

-- a question with its numbers
abbrev pub answer_to : Model → ℕ × List ℕ → List ℕ
answer_to m q = answer_text m q.0 (get_or q.1 0 0) (get_or q.1 1 0)

-- the answers in their order, or the number of the first line that is no question
unfoldable pub answers_of : Model → List ℕ → Outcome
answers_of m t = pick (questions_in t).bad (faulty (fault_line 0 (questions_in t))) (whole (all_of (answer_to m) (questions_in t).items))

abbrev pub told_says : Result ℕ AskError → ℕ × ℕ
told_says (Ok n) = (0, n)
told_says (Err (NoQuestion line)) = (number journal_malformed, line)
told_says (Err Short) = (number buffer_short, 0)
told_says (Err Unsound) = (number book_unsound, 0)

-- what is answered for a lent buffer l, and the buffer after it: 15 and 13 and 14 leave it as it was
unfoldable pub told_for : Book → List ℕ → List ℕ → ℕ × ℕ
told_for b t l = pick (book_test b) (answer_for (answers_of (model_of b) t) l) (number book_unsound, 0)

unfoldable pub left_by : Book → List ℕ → List ℕ → List ℕ
left_by b t l = pick (book_test b) (left_for (answers_of (model_of b) t) l) l
