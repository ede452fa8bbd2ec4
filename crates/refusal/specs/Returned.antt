-- What code returns of a rule, beside the answer's number and what is there after it; of rules one after the other; of a rule for a part.
use Rattle.std.specs.Prelude.{ℕ, ◌≡◌, refl, Bool, true, false, List, [], ◌∷◌, ◌++◌, cond, eqb, Result, Ok, Err}
use Rattle.std.proofs.Math.Path.{sym, ap}
use Rattle.std.proofs.Common.{◌∙◌}
use Rattle.refusal.specs.Choice.{pick}
use Rattle.refusal.specs.ChoiceLaws.{pick_off}
use Rattle.refusal.specs.Refusal.{Refusal, Check, number, first}
use Rattle.refusal.specs.RefusalLaws.{refusal_not-0}
use Rattle.refusal.specs.Rule.{Rule, after, next, answered, verdict, outcome, passing, on_done, then_of, said}

module _ {A S : Type 0} (mk : ℕ → A → S) (old done : A) where
  says : (ks : List Check) → said mk old (verdict ks done) ≡ answered mk old (record { checks = ks; done = done })
  unfolding answered after first pick
  says [] = refl
  says (k ∷ ks) = elim k.0 as (λ t. said mk old (cond t (Err k.1) (verdict ks done)) ≡ mk (pick t (number k.1) (first ks)) (pick (eqb (pick t (number k.1) (first ks)) 0) done old))
      [ true ↦ ap (λ z. mk (number k.1) z) (sym (pick_off done old (refusal_not-0 k.1))) | false ↦ says ks ]

-- what is returned says the number of the first check that fails and what is there after it
pub outcome_says : {A S : Type 0} (mk : ℕ → A → S) (old : A) (u : Rule A) → said mk old (outcome u) ≡ answered mk old u
outcome_says mk old u = says mk old u.done u.checks

-- the same checks with f of what is done
pub verdict_on : {A B : Type 0} (f : A → B) (ks : List Check) (x : A) → verdict ks (f x) ≡ on_done f (verdict ks x)
verdict_on f [] x = refl
verdict_on {A} {B} f (k ∷ ks) x = elim k.0 as (λ t. ◌≡◌ {A = Result B Refusal} (cond t (Err k.1) (verdict ks (f x))) (on_done f (cond t (Err k.1) (verdict ks x))))
    [ true ↦ refl | false ↦ verdict_on f ks x ]

-- the checks of two parts, one after the other
pub verdict_append : {A B : Type 0} (ks ls : List Check) (x : A) (y : B) → verdict (ks ++ ls) y ≡ then_of (verdict ks x) (λ _. verdict ls y)
verdict_append [] ls x y = refl
verdict_append {A} {B} (k ∷ ks) ls x y = elim k.0 as (λ t. ◌≡◌ {A = Result B Refusal} (cond t (Err k.1) (verdict (ks ++ ls) y)) (then_of (cond t (Err k.1) (verdict ks x)) (λ _. verdict ls y)))
    [ true ↦ refl | false ↦ verdict_append ks ls x y ]

-- a second rule, which sees what the first has done
pub outcome_next : {A : Type 0} (u : Rule A) (f : A → Rule A) → outcome (next u f) ≡ then_of (outcome u) (λ x. outcome (f x))
outcome_next u f = go u.checks
  where
    go : (ks : List Check) → verdict (ks ++ (f u.done).checks) (f u.done).done ≡ then_of (verdict ks u.done) (λ x. outcome (f x))
    go [] = refl
    go (k ∷ ks) = elim k.0 as (λ t. ◌≡◌ (cond t (Err k.1) (verdict (ks ++ (f u.done).checks) (f u.done).done)) (then_of (cond t (Err k.1) (verdict ks u.done)) (λ x. outcome (f x))))
        [ true ↦ refl | false ↦ go ks ]

-- what is done where nothing is refused
pub verdict_done : {A : Type 0} (ks : List Check) {x y : A} → verdict ks x ≡ Ok y → y ≡ x
verdict_done [] e = cc
verdict_done {A} (k ∷ ks) {x} {y} e = go k.0 refl e (λ h. verdict_done ks h)
  where
    go : (t : Bool) → k.0 ≡ t → cond k.0 (Err k.1) (verdict ks x) ≡ Ok y → (verdict ks x ≡ Ok y → y ≡ x) → y ≡ x
    go true q h i = let z : ◌≡◌ {A = Result A Refusal} (Err k.1) (Ok y) = rw q at h in cc
    go false q h i = i (rw q at h)

-- nothing is refused where every check passes, and else the first that fails
pub verdict_first : {A : Type 0} (ks : List Check) (x : A) {y : A} → verdict ks x ≡ Ok y → first ks ≡ 0
unfolding first pick
verdict_first [] x e = refl
verdict_first {A} (k ∷ ks) x {y} e = go k.0 refl e (λ h. verdict_first ks x h)
  where
    go : (t : Bool) → k.0 ≡ t → cond k.0 (Err k.1) (verdict ks x) ≡ Ok y → (verdict ks x ≡ Ok y → first ks ≡ 0) → pick k.0 (number k.1) (first ks) ≡ 0
    go true q h i = let z : ◌≡◌ {A = Result A Refusal} (Err k.1) (Ok y) = rw q at h in cc
    go false q h i = rw q (i (rw q at h))

pub verdict_refused : {A : Type 0} (ks : List Check) (x : A) {r : Refusal} → verdict ks x ≡ Err r → first ks ≡ number r
unfolding first pick
verdict_refused {A} [] x e = cc
verdict_refused {A} (k ∷ ks) x {r} e = go k.0 refl e (λ h. verdict_refused ks x h)
  where
    go : (t : Bool) → k.0 ≡ t → cond k.0 (Err k.1) (verdict ks x) ≡ Err r → (verdict ks x ≡ Err r → first ks ≡ number r) → pick k.0 (number k.1) (first ks) ≡ number r
    go true q h i = let z : ◌≡◌ {A = Result A Refusal} (Err k.1) (Err r) = rw q at h in let w : k.1 ≡ r = cc in rw q (ap number w)
    go false q h i = rw q (i (rw q at h))
