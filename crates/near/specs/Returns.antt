-- What comes back of calls one after the other: which refusal, or what is done where none is
use Rattle.std.specs.Prelude.{◌≡◌, refl, List, ◌++◌, Result, Ok, Err}
use Rattle.std.proofs.Common.{sym, ap, ◌∙◌}
use Rattle.refusal.specs.declared.Refusal.{Refusal}
use Rattle.refusal.specs.Refusal.{Check}
use Rattle.refusal.specs.Rule.{Rule, next, verdict, outcome, passing, on_done, then_of}
use Rattle.refusal.specs.Returned.{verdict_on, verdict_append, outcome_next}

module _ {A B : Type 0} (f : A → B) (r : Result A Refusal) where
  -- what is done, where f of it is
  pub done_by : {y : B} → Ok y ≡ on_done f r → (x : A) × (r ≡ Ok x) × (y ≡ f x)
  done_by {y} e = go r e
    where
      go : (r : Result A Refusal) → Ok y ≡ on_done f r → (x : A) × (r ≡ Ok x) × (y ≡ f x)
      go (Ok x) h = (x, refl, cc)
      go (Err i) h = let z : ◌≡◌ {A = Result B Refusal} (Ok y) (Err i) = h in cc

  pub refused_by : {e : Refusal} → Err e ≡ on_done f r → r ≡ Err e
  refused_by {e} h = go r h
    where
      go : (r : Result A Refusal) → Err e ≡ on_done f r → r ≡ Err e
      go (Ok x) h = let z : ◌≡◌ {A = Result B Refusal} (Err e) (Ok (f x)) = h in cc
      go (Err i) h = cc

-- the same checks before another value
module _ {A B : Type 0} (ks : List Check) (x : A) (y : B) where
  other : verdict ks y ≡ on_done (λ _. y) (verdict ks x)
  other = verdict_on (λ _. y) ks x

  pub other_ok : {z : A} → verdict ks x ≡ Ok z → verdict ks y ≡ Ok y
  other_ok e = other ∙ ap (on_done (λ _. y)) e

  pub other_err : {e : Refusal} → verdict ks x ≡ Err e → verdict ks y ≡ Err e
  other_err e = other ∙ ap (on_done (λ _. y)) e

-- checks of two parts: the first part's refusal, or what the second says
module _ {A B : Type 0} (ks ls : List Check) (x : A) (y : B) where
  pub append_err : {e : Refusal} → verdict ks x ≡ Err e → verdict (ks ++ ls) y ≡ Err e
  append_err e = verdict_append ks ls x y ∙ ap (λ z. then_of z (λ _. verdict ls y)) e

  pub append_go : {z : A} → verdict ks x ≡ Ok z → verdict (ks ++ ls) y ≡ verdict ls y
  append_go e = verdict_append ks ls x y ∙ ap (λ z. then_of z (λ _. verdict ls y)) e

-- a second rule, which sees what the first has done
module _ {A : Type 0} (u : Rule A) (f : A → Rule A) where
  pub next_err : {e : Refusal} → outcome u ≡ Err e → outcome (next u f) ≡ Err e
  next_err e = outcome_next u f ∙ ap (λ z. then_of z (λ x. outcome (f x))) e

  pub next_go : {z : A} → outcome u ≡ Ok z → outcome (next u f) ≡ outcome (f z)
  next_go e = outcome_next u f ∙ ap (λ z. then_of z (λ x. outcome (f x))) e
