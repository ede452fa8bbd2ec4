-- A reply stands whole in an answer's twelve words, since no question has more than ten values. Assumes nothing.
use Rattle.std.specs.Prelude.{ℕ, zero, suc, ◌≤◌, ◌≡◌, refl, List, [], ◌∷◌, length, take, eqb}
use Rattle.std.proofs.Common.{arith, ap}
use Rattle.refusal.specs.ChoiceLaws.{either}
use Rattle.refusal.specs.Refusal.{first}
use Rattle.refusal.specs.Rule.{Rule, after, answered}
use Rattle.terms.specs.Schedule.{schedule_zero}
use Rattle.terms.specs.declared.Schedule.{Schedule}
use Rattle.lists.specs.Listing.{Reply}
use Rattle.rules.specs.Model.{Model}
use Rattle.query.specs.Reads.{schedule_values, schedule_order}
use Rattle.query.specs.Numbers.{schedule_numbers}
use Rattle.query.specs.Questions.{Question, questions, read_in, read_of, reply_to, widened, twelve}
use Rattle.asking.specs.Answers.{reply_in}

take_widened : (n : ℕ) (l : List ℕ) → length l ≤ n → take (length l) (widened n l) ≡ l
take_widened zero [] h = refl
take_widened zero (v ∷ l) h = absurd (omega arith)
take_widened (suc n) [] h = refl
take_widened (suc n) (v ∷ l) h = ap (λ (z : List ℕ). v ∷ z) (take_widened n l (omega arith))

pub reply_in_lem : (r : Reply) → length r.1 ≤ 10 → reply_in (twelve r) ≡ r
unfolding reply_in
reply_in_lem r h = ap (λ (l : List ℕ). (r.0, l)) (take_widened 10 r.1 h)

-- ── At most ten values ──
Short : Question → Type 0
Short q = (id now : ℕ) (m : Model) → length (q.read id now m).done ≤ 10

AllShort : List Question → Type 0
AllShort [] = Unit {0}
AllShort (q ∷ qs) = Short q × AllShort qs

short_in : (qs : List Question) → AllShort qs → (code id now : ℕ) (m : Model) → length (read_in qs code id now m).done ≤ 10
unfolding read_in AllShort Short
short_in [] a code id now m = omega arith
short_in (q ∷ qs) a code id now m =
    either (λ (u : Rule (List ℕ)). length u.done ≤ 10) (eqb code q.code) (q.read id now m) (read_in qs code id now m) (λ e. a.0 id now m) (λ e. short_in qs a.1 code id now m)

schedule_short : (s : Schedule) → length (schedule_values s) ≤ 10
unfolding schedule_values
schedule_short s = either (λ (l : List ℕ). length l ≤ 10) (schedule_zero s) [] (schedule_order (schedule_numbers s)) (λ e. omega arith) (λ e. omega arith)

all_short_lem : AllShort questions
unfolding AllShort Short
all_short_lem = (λ id now m. omega arith, (λ id now m. omega arith, (λ id now m. omega arith, (λ id now m. schedule_short _, (λ id now m. omega arith, (λ id now m. omega arith, (λ id now m. omega arith, (λ id now m. omega arith, (λ id now m. omega arith, (λ id now m. omega arith, (λ id now m. omega arith, (λ id now m. omega arith, (λ id now m. omega arith, tt)))))))))))))

pub reply_short : (code id now : ℕ) (m : Model) → length (reply_to code id now m).1 ≤ 10
unfolding answered after read_of
reply_short code id now m =
    let u = read_of code id now m in
    either (λ (l : List ℕ). length l ≤ 10) (eqb (first u.checks) 0) u.done [] (λ e. short_in questions all_short_lem code id now m) (λ e. omega arith)
