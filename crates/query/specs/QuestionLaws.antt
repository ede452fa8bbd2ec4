-- Of a sound book each question's reply is what its single query gives; and what the code that answers one goes by. Assumes nothing.
use Rattle.std.specs.Prelude.{ℕ, ◌≡◌, refl, true, not, List, [], ◌∷◌}
use Rattle.std.proofs.Common.{sym, ap, ◌∙◌, ne_eqb}
use Rattle.refusal.specs.Choice.{pick}
use Rattle.refusal.specs.ChoiceLaws.{pick_off}
use Rattle.refusal.specs.Refusal.{number, invalid_input, book_unsound}
use Rattle.refusal.specs.Rule.{Rule, sure, answered}
use Rattle.refusal.specs.RuleLaws.{refuses, goes_on, does}
use Rattle.rules.specs.Model.{Model}
use Rattle.book.specs.declared.Book.{Book}
use Rattle.book.specs.Stored.{model_of, book_test}
use Rattle.query.specs.Reads.{reply, asked, offer_read, lender_read, schedule_read, deadline_read, status_read, due_read, count_read, window_read, seats_read, threshold_read, pause_read, totals_read}
use Rattle.query.specs.Questions.{Question, questions, unlisted, read_in, read_of, reply_to, twelve, account_read}

-- what the last arm of a `match` with an arm for each code knows of the code
abbrev pub Other : Type 0 → List Question → ℕ → Type 0
Other A [] code = A
Other A (q ∷ qs) code = Other (A × (code ≡ q.code → ⊥)) qs code

other_in : (A : Type 0) (qs : List Question) (code id now : ℕ) (m : Model) → Other A qs code → (read_in qs code id now m ≡ unlisted) × A
unfolding read_in
other_in A [] code id now m x = (refl, x)
other_in A (q ∷ qs) code id now m x =
    let y = other_in (A × (code ≡ q.code → ⊥)) qs code id now m x in
    (pick_off (q.read id now m) (read_in qs code id now m) (ne_eqb code q.code y.1.1) ∙ y.0, y.1.0)

pub no_question : (code id now : ℕ) (m : Model) → Other Unit questions code → read_of code id now m ≡ unlisted
unfolding read_of
no_question code id now m x = (other_in Unit questions code id now m x).0

-- ── Of the code that answers a question ──
module _ (code id now : ℕ) (m : Model) where
  -- in the arm of a code: the words are those of a rule that is the code's query, or of one that checks nothing
  pub by_code : (k : ℕ) (u : Rule (List ℕ)) {words : List ℕ} → code ≡ k → words ≡ twelve (answered reply [] u) → u ≡ read_of k id now m → words ≡ twelve (reply_to code id now m)
  by_code k u e w q =
      w ∙ ap (λ (r : Rule (List ℕ)). twelve (answered reply [] r)) q ∙ ap (λ (n : ℕ). twelve (reply_to n id now m)) (sym e)

  pub by_sure : (k : ℕ) (v : List ℕ) {words : List ℕ} → code ≡ k → words ≡ twelve (0, v) → sure v ≡ read_of k id now m → words ≡ twelve (reply_to code id now m)
  by_sure k v e w q = by_code k (sure v) e (w ∙ ap twelve (does reply [] v refl)) q

  -- in the last arm
  pub by_none : {words : List ℕ} → Other Unit questions code → words ≡ twelve (number invalid_input, []) → words ≡ twelve (reply_to code id now m)
  by_none x w =
      w ∙ ap twelve (refuses reply invalid_input [] [] [] refl) ∙ ap (λ (r : Rule (List ℕ)). twelve (answered reply [] r)) (sym (no_question code id now m x))

-- ── The single queries ──
single : (b : Book) (q : Model → Rule (List ℕ)) → book_test b ≡ true → answered reply [] (q (model_of b)) ≡ asked b q
single b q e = goes_on reply book_unsound (q (model_of b)).checks [] (q (model_of b)).done (ap not e) refl

-- what each code's reply is
pub record Single (b : Book) (id now : ℕ) : Type 0 where
  pub offer : reply_to 1 id now (model_of b) ≡ asked b (offer_read id)
  pub account : reply_to 2 id now (model_of b) ≡ asked b (account_read id)
  pub lender : reply_to 3 id now (model_of b) ≡ asked b (lender_read id)
  pub schedule : reply_to 4 id now (model_of b) ≡ asked b (schedule_read id)
  pub deadline : reply_to 5 id now (model_of b) ≡ asked b (deadline_read id)
  pub status : reply_to 6 id now (model_of b) ≡ asked b (status_read now id)
  pub due : reply_to 7 id now (model_of b) ≡ asked b (due_read now id)
  pub count : reply_to 8 id now (model_of b) ≡ asked b count_read
  pub window : reply_to 9 id now (model_of b) ≡ asked b window_read
  pub seats : reply_to 10 id now (model_of b) ≡ asked b seats_read
  pub threshold : reply_to 11 id now (model_of b) ≡ asked b threshold_read
  pub pause : reply_to 12 id now (model_of b) ≡ asked b pause_read
  pub totals : reply_to 13 id now (model_of b) ≡ asked b totals_read
  pub other : (code : ℕ) → Other Unit questions code → reply_to code id now (model_of b) ≡ (number invalid_input, [])

pub single_queries : (b : Book) (id now : ℕ) → book_test b ≡ true → Single b id now
unfolding read_of read_in pick
single_queries b id now e = record {
  offer = single b (offer_read id) e;
  account = single b (account_read id) e;
  lender = single b (lender_read id) e;
  schedule = single b (schedule_read id) e;
  deadline = single b (deadline_read id) e;
  status = single b (status_read now id) e;
  due = single b (due_read now id) e;
  count = single b count_read e;
  window = single b window_read e;
  seats = single b seats_read e;
  threshold = single b threshold_read e;
  pause = single b pause_read e;
  totals = single b totals_read e;
  other = λ code x. ap (λ (r : Rule (List ℕ)). answered reply [] r) (no_question code id now (model_of b) x) ∙ sym (refuses reply invalid_input [] [] [] refl);
}
