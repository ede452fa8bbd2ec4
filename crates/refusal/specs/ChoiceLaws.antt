-- How a choice answers, where its test is known and where it is not.
use Rattle.std.specs.Prelude.{◌≡◌, refl, Bool, true, false, not}
use Rattle.std.proofs.Common.{sym, ap, ◌∙◌}
use Rattle.refusal.specs.Choice.{pick}

module _ {ℓ} {A : Type ℓ} where
  pub on : {t : Bool} {x z : A} (y : A) → t ≡ true → z ≡ x → z ≡ pick t x y
  unfolding pick
  on {t} {x} {z} y e h = rw e h

  pub off : {t : Bool} {y z : A} (x : A) → t ≡ false → z ≡ y → z ≡ pick t x y
  unfolding pick
  off {t} {y} {z} x e h = rw e h

  pub pick_on : {t : Bool} (x y : A) → t ≡ true → pick t x y ≡ x
  unfolding pick
  pick_on {t} x y e = rw e

  pub pick_off : {t : Bool} (x y : A) → t ≡ false → pick t x y ≡ y
  unfolding pick
  pick_off {t} x y e = rw e

-- what holds of both holds of the one that is taken
pub either : {A : Type 0} (P : A → Type 0) (t : Bool) (x y : A) → (t ≡ true → P x) → (t ≡ false → P y) → P (pick t x y)
unfolding pick
either P true x y f g = f refl
either P false x y f g = g refl

pub not_on : {t : Bool} → t ≡ false → not t ≡ true
not_on e = ap not e

pub not_off : {t : Bool} → t ≡ true → not t ≡ false
not_off e = ap not e

-- code tests that a callee did not agree; the definition tests what the callee told
pub told : {r t z : Bool} → r ≡ t → not r ≡ z → not t ≡ z
told e h = ap not (sym e) ∙ h
