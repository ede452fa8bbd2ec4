-- Where each answer of the library comes from. Assumes nothing.
use Rattle.std.specs.Prelude.{◌≡◌, refl, Bool, not, Result, Err, List, [], ℕ, zero, suc, ◌-◌, leb, length, get_or}
use Rattle.std.proofs.Math.Path.{sym, ap}
use Rattle.std.proofs.Common.{◌∙◌, arith, eq-eqb, ne_eqb}
use Rattle.std.proofs.Math.Bool.{true, false}
use Rattle.std.proofs.Math.Dec.{eqb}
use Rattle.sheet.specs.Shown.{listed_in}
use Rattle.refusal.specs.Choice.{pick}
use Rattle.refusal.specs.ChoiceLaws.{on, off, pick_on, pick_off}
use Rattle.refusal.specs.declared.Refusal.{Refusal}
use Rattle.refusal.specs.Refusal.{number, journal_malformed, buffer_short}
use Rattle.refusal.specs.RefusalLaws.{refusal_not-0}
use Rattle.lists.specs.Listing.{Reply, listed_says}
use Rattle.book.specs.declared.Book.{Book}
use Rattle.replay.specs.declared.Outcome.{Outcome}
use Rattle.rules.specs.Model.{Model}
use Rattle.text.specs.Answers as Text
use Rattle.text.specs.Journal.{fault_line}
use Rattle.asking.specs.Questions.{questions_in, answers_of}
use Rattle.asking.specs.QuestionLaws.{answers_faulty, answers_whole}
use Rattle.solgaverna.specs.Answers.{minus, coded, code, left, of_outcome, of_book, told, four_over, fault_of, line_of}

pub turned : (n : ℕ) → (n ≡ 0 → ⊥) → 18446744073709551615 - (n - 1) ≡ 18446744073709551616 - n
turned zero h = absurd (h refl)
turned (suc n) h = omega arith

-- the book that a replay left
module _ (l : List ℕ) (f : Book → ℕ × List ℕ) {o q : Outcome} (e : o ≡ q) where
  pub malformed : {r : ℕ} → eqb o.number 0 ≡ false → r ≡ minus (number journal_malformed) → ◌≡◌ {A = ℕ × List ℕ} (r, l) (of_outcome q l f)
  unfolding of_outcome
  malformed h k = off _ (ap (λ (x : Outcome). eqb x.number 0) (sym e) ∙ h) (ap (λ (x : ℕ). (x, l)) k)

  pub whole : {p : ℕ × List ℕ} → eqb o.number 0 ≡ true → p ≡ f o.book → p ≡ of_outcome q l f
  unfolding of_outcome
  whole h k = on _ (ap (λ (x : Outcome). eqb x.number 0) (sym e) ∙ h) (k ∙ ap (λ (x : Outcome). f x.book) e)

-- a refusal's code
pub code_err : (r : Refusal) → code (Err r) ≡ minus (number r)
code_err r = pick_off 0 (minus (number r)) (refusal_not-0 r)

-- an answer of the book that a journal leaves
module _ (s l : List ℕ) (f : Book → ℕ × List ℕ) where
  pub book_bad : {e : Refusal} → ((left s).number ≡ 0 → ⊥) → e ≡ journal_malformed → ◌≡◌ {A = ℕ × List ℕ} (minus (number e), l) (of_book s l f)
  unfolding of_outcome
  book_bad {e} h q = rw q (sym (pick_off (f (left s).book) (minus (number journal_malformed), l) (ne_eqb _ _ h)))

  pub code_bad : {e : Refusal} (r : Result ℕ Refusal) → ((left s).number ≡ 0 → ⊥) → e ≡ journal_malformed → r ≡ Err e → ◌≡◌ {A = ℕ × List ℕ} (code r, l) (of_book s l f)
  code_bad {e} r h q k = rw k (ap (λ (n : ℕ). (n, l)) (code_err e) ∙ book_bad h q)

  pub book_good : {b : Book} {x : ℕ × List ℕ} → (left s).number ≡ 0 → b ≡ (left s).book → x ≡ f b → x ≡ of_book s l f
  unfolding of_outcome
  book_good h q e = e ∙ ap f q ∙ sym (pick_on (f (left s).book) (minus (number journal_malformed), l) (eq-eqb _ _ h))

-- a list's answer
pub counts_by : {r : Reply} {x : ℕ} {m : List ℕ} {a : Reply × List ℕ} → x ≡ coded r.0 (get_or r.1 0 0) → (r, m) ≡ a → (x, m) ≡ told a
counts_by {m = m} e h = ap (λ (n : ℕ). (n, m)) e ∙ ap told h

pub counts : (r : Result ℕ Refusal) {m : List ℕ} {a : Reply × List ℕ} → (listed_says r, m) ≡ a → ◌≡◌ {A = ℕ × List ℕ} (code r, m) (told a)
counts r h = ap told h

-- the answers to questions
pub sizes : {a b : ℕ × ℕ} {x : ℕ} {m l : List ℕ} → x ≡ coded a.0 a.1 → (a ≡ b) × (m ≡ l) → ◌≡◌ {A = ℕ × List ℕ} (x, m) (coded b.0 b.1, l)
sizes {b = b} {m = m} e h = ap (λ (n : ℕ). (n, m)) (e ∙ ap (λ (z : ℕ × ℕ). coded z.0 z.1) h.0) ∙ ap (λ (z : List ℕ). (coded b.0 b.1, z)) h.1

-- four numbers
four_err : (r : Refusal) (l : List ℕ) → ◌≡◌ {A = ℕ × List ℕ} (code (Err r), l) (four_over (number r, []) l)
unfolding four_over
four_err r l = ap (λ (n : ℕ). (n, l)) (code_err r) ∙ sym (pick_on _ _ (ap not (refusal_not-0 r)))

pub four_fails : {e : Refusal} {a : Reply} (r : Result ℕ Refusal) (l : List ℕ) → (number e, []) ≡ a → r ≡ Err e → ◌≡◌ {A = ℕ × List ℕ} (code r, l) (four_over a l)
four_fails {e} r l h k = rw k (four_err e l ∙ ap (λ (z : Reply). four_over z l) h)

-- a faulty line
line_by_lem : (t : Bool) (n : ℕ) → line_of (pick t (0, n) (number buffer_short, 0)) ≡ 0
unfolding pick
line_by_lem true n = refl
line_by_lem false n = refl

pub fault_line_lem : (o : Text.Outcome) (l : List ℕ) → line_of (Text.answer_for o l) ≡ fault_of o
unfolding Text.answer_for listed_in fault_of pick
fault_line_lem (Text.whole w) l = line_by_lem (leb (length w) (length l)) (length w)
fault_line_lem (Text.faulty at) l = refl

-- which line is no question, no book decides
pub question_line : (m : Model) (t : List ℕ) → fault_of (answers_of m t) ≡ fault_line 0 (questions_in t)
unfolding fault_line fault_of
question_line m t = go (questions_in t).bad refl
  where
    go : (b : Bool) → (questions_in t).bad ≡ b → fault_of (answers_of m t) ≡ fault_line 0 (questions_in t)
    go true e = ap fault_of (answers_faulty m t e)
    go false e = ap fault_of (answers_whole m t e) ∙ off _ e refl
