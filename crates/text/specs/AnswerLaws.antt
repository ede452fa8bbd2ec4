-- The ends of a translation, and that any two results that its contract allows are one. Assumes nothing.
use Rattle.std.specs.Prelude.{◌≡◌, Bool, List, ◌++◌, ℕ, ◌≤◌, take, drop}
use Rattle.std.proofs.Math.Path.{refl}
use Rattle.std.proofs.Common.{sym, ap, ◌∙◌, arith, length-append, length-take-le}
use Rattle.std.proofs.Math.Bool.{true, false}
use Rattle.std.proofs.Math.Dec.{leb}
use Rattle.std.proofs.Math.ListN.{length}
use borrow.Author.Tests.{lt-leb, le-leb, ltb-true, ltb-false}
use Rattle.sheet.specs.Shown.{listed_in, shown_in}
use Rattle.refusal.specs.Choice.{pick}
use Rattle.refusal.specs.ChoiceLaws.{on, off}
use Rattle.refusal.specs.Refusal.{number, buffer_short}
use Rattle.sheet.specs.declared.Pen.{Pen}
use Rattle.sheet.specs.Sheet.{Wrote, pen_at}
use Rattle.sheet.specs.Laid.{dry, wet}
use Rattle.text.specs.Answers.{Outcome, whole, faulty, answered, answer_for, left_for}
use Rattle.text.specs.declared.Answer.{Answer}
use Rattle.text.specs.declared.Answer.TheVariants.{Done, Malformed, Short}

-- an answer and a buffer are those of an outcome
abbrev pub Fits : Outcome → List ℕ → Answer → List ℕ → Type 0
Fits o l r m = (answered r ≡ answer_for o l) × (m ≡ left_for o l)

module _ {o : Outcome} {t l m : List ℕ} {q : Pen} (w : Wrote false t l (pen_at 0 false) m q) where
  pub at_fault : {n : ℕ} → o ≡ faulty n → Fits o l (Malformed n) m
  unfolding answer_for left_for listed_in shown_in
  at_fault e = rw e (refl, (dry w).0)

  pub no_space : o ≡ whole t → q.short ≡ true → Fits o l Short m
  unfolding answer_for left_for listed_in shown_in
  no_space e h =
      let f : leb (length t) (length l) ≡ false = lt-leb (length t) (length l) (ltb-true (length l) (length t) (sym (dry w).1 ∙ h)) in
      rw e (off _ f refl, off _ f (dry w).0)

  pub in_space : {n : List ℕ} {r : Pen} → o ≡ whole t → q.short ≡ false → Wrote true t m (pen_at 0 false) n r → Fits o l (Done r.at) n
  unfolding answer_for left_for listed_in shown_in
  in_space {n} {r} e h x =
      let f : length t ≤ length l = ltb-false (length l) (length t) (sym (dry w).1 ∙ h) in
      let y : Wrote true t l (pen_at 0 false) n r = rw (dry w).0 at x in
      let g : leb (length t) (length l) ≡ true = le-leb (length t) (length l) f in
      rw e (on _ g (ap (λ (k : ℕ). (0, k)) (wet f y).1), on _ g (wet f y).0)

-- the number and the value say which answer it is
pub same_answer : (x y : Answer) → answered x ≡ answered y → x ≡ y
same_answer (Done m) (Done n) e = ap Done (ap (λ (p : ℕ × ℕ). p.1) e)
same_answer (Done m) (Malformed n) e = let z = ap (λ (p : ℕ × ℕ). p.0) e in absurd (omega arith)
same_answer (Done m) Short e = let z = ap (λ (p : ℕ × ℕ). p.0) e in absurd (omega arith)
same_answer (Malformed m) (Done n) e = let z = ap (λ (p : ℕ × ℕ). p.0) e in absurd (omega arith)
same_answer (Malformed m) (Malformed n) e = ap Malformed (ap (λ (p : ℕ × ℕ). p.1) e)
same_answer (Malformed m) Short e = let z = ap (λ (p : ℕ × ℕ). p.0) e in absurd (omega arith)
same_answer Short (Done n) e = let z = ap (λ (p : ℕ × ℕ). p.0) e in absurd (omega arith)
same_answer Short (Malformed n) e = let z = ap (λ (p : ℕ × ℕ). p.0) e in absurd (omega arith)
same_answer Short Short e = refl

pub one_answer : (o : Outcome) (l : List ℕ) {m n : List ℕ} {x y : Answer} → Fits o l x m → Fits o l y n → (x ≡ y) × (m ≡ n)
one_answer o l {x = x} {y = y} p q = (same_answer x y (p.0 ∙ sym q.0), p.1 ∙ sym q.1)

-- an answer's count lies within the buffer
count_in_lem : (b : Bool) (k : ℕ) (t l : List ℕ) → leb (length t) (length l) ≡ b → ◌≡◌ {A = ℕ × ℕ} (0, k) (pick b (0, length t) (number buffer_short, 0)) → k ≤ length (pick b (t ++ drop (length t) l) l)
unfolding pick
count_in_lem true k t l e h = let z : k ≡ length t = ap (λ (p : ℕ × ℕ). p.1) h in rw length-append (omega arith)
count_in_lem false k t l e h = let z = ap (λ (p : ℕ × ℕ). p.0) h in absurd (omega arith)

within_by : (o : Outcome) (k : ℕ) (l : List ℕ) → (0, k) ≡ answer_for o l → k ≤ length (left_for o l)
unfolding answer_for left_for listed_in shown_in
within_by (whole t) k l h = count_in_lem (leb (length t) (length l)) k t l refl h
within_by (faulty n) k l h = let z = ap (λ (p : ℕ × ℕ). p.0) h in absurd (omega arith)

pub within : {k : ℕ} {d : Answer} {m : List ℕ} (o : Outcome) (l : List ℕ) → Fits o l d m → d ≡ Done k → (k ≤ length m) × (k ≡ length (take k m))
within {k} {d} {m} o l h e =
    let z : k ≤ length m = rw h.1 (within_by o k l (ap answered (sym e) ∙ h.0)) in
    (z, sym (length-take-le k m z))
