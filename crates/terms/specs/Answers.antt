-- What an answer says leaves one answer, and the same terms are equal ones. Assumes nothing.
use Rattle.std.specs.Prelude.{ℕ, ◌≡◌, refl, true, ◌&&◌, ℤ, eqb, Option, Some, None}
use Rattle.std.proofs.Common.{arith, sym, ap, eqb-true, eq-eqb}
use Rattle.money.specs.Range.{same_amount}
use Rattle.money.specs.Facts.{both, same_is, is_same}
use Rattle.installments.specs.declared.Due.{Due}
use Rattle.terms.specs.declared.Terms.{Terms}
use Rattle.terms.specs.Terms.{same_terms}
use Rattle.terms.specs.Installment.{installment_says}
use Rattle.terms.specs.Schedule.{period_says}
use Rattle.terms.specs.Due.{due_says}

-- an answer with number 0 is no refusal
apart : {A B : Type 0} {x y : A} → ◌≡◌ {A = ℕ × A} (0, x) (3, y) → B
apart {A} p = absurd (no (ap (λ (q : ℕ × A). q.0) p))
  where
    no : ◌≡◌ {A = ℕ} 0 3 → ⊥
    no e = omega arith

pub installment_one : (a b : Option ℤ) → installment_says a ≡ installment_says b → a ≡ b
installment_one (Some x) (Some y) p = ap (λ (z : ℤ). Some z) (ap (λ (q : ℕ × ℤ). q.1) p)
installment_one (Some x) None p = apart p
installment_one None (Some y) p = apart (sym p)
installment_one None None p = refl

pub period_one : (a b : Option ℕ) → period_says a ≡ period_says b → a ≡ b
period_one (Some x) (Some y) p = ap (λ (n : ℕ). Some n) (ap (λ (q : ℕ × ℕ). q.1) p)
period_one (Some x) None p = apart p
period_one None (Some y) p = apart (sym p)
period_one None None p = refl

pub due_one : (a b : Option Due) → due_says a ≡ due_says b → a ≡ b
due_one (Some x) (Some y) p = ap (λ (d : Due). Some d) (both_same x y (ap (λ (q : ℕ × (ℕ × ℕ)). q.1.0) p) (ap (λ (q : ℕ × (ℕ × ℕ)). q.1.1) p))
  where
    both_same : (c d : Due) → c.number ≡ d.number → c.owed ≡ d.owed → c ≡ d
    both_same c d e f i = record { number = e i; owed = f i }
due_one (Some x) None p = apart p
due_one None (Some y) p = apart (sym p)
due_one None None p = refl

-- terms with the same three parts
terms_of_lem : (a b : Terms) → a.amount ≡ b.amount → a.rate ≡ b.rate → a.duration ≡ b.duration → a ≡ b
terms_of_lem a b p q r i = record { amount = p i; rate = q i; duration = r i }

pub same_terms_is : (a b : Terms) → same_terms a b ≡ true → a ≡ b
unfolding same_terms
same_terms_is a b h =
    let l = both (same_amount a.amount b.amount && eqb a.rate b.rate) (eqb a.duration b.duration) h in
    let m = both (same_amount a.amount b.amount) (eqb a.rate b.rate) l.0 in
    terms_of_lem a b (same_is a.amount b.amount m.0) (eqb-true a.rate b.rate m.1) (eqb-true a.duration b.duration l.1)

pub is_same_terms : (a b : Terms) → a ≡ b → same_terms a b ≡ true
unfolding same_terms
is_same_terms a b e = rw e (simp (is_same b.amount b.amount refl, eq-eqb b.rate b.rate refl, eq-eqb b.duration b.duration refl))
