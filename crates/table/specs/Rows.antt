-- What is known of a row that was looked up
use Rattle.std.specs.Prelude.{◌≡◌, Bool, true, false, cond, not, ℕ}
use Rattle.std.proofs.Math.Path.{refl}
use Rattle.std.proofs.Common.{ap, arith}
use Rattle.table.specs.Tables.{Found, absent, here, row, has, none, fmap}

pub here_absent : {A : Type 0} (x : A) → here x ≡ absent → ⊥
here_absent x e = let z : ◌≡◌ {A = ℕ} 0 1 = cc in omega arith

module _ {A : Type 0} where
  pub here_row : (d : A) (o : Found A) → has o ≡ true → o ≡ here (row d o)
  unfolding has row
  here_row d absent e = cc
  here_row d (here r) e = refl

  pub absent_has : (o : Found A) → has o ≡ false → o ≡ absent
  unfolding has
  absent_has absent e = refl
  absent_has (here r) e = cc

  pub fmap_cond : {B : Type 0} (f : A → B) (g : Bool) (x y : Found A) → fmap f (cond g x y) ≡ cond g (fmap f x) (fmap f y)
  fmap_cond f true x y = refl
  fmap_cond f false x y = refl

module _ {A : Type 0} {o : Found A} where
  pub has_yes : {r : A} → o ≡ here r → has o ≡ true
  unfolding has
  has_yes {r} e = rw e

  pub has_no : o ≡ absent → has o ≡ false
  unfolding has
  has_no e = rw e

  pub none_yes : o ≡ absent → none o ≡ true
  none_yes e = ap not (has_no e)

  pub none_no : {r : A} → o ≡ here r → none o ≡ false
  none_no {r} e = ap not (has_yes e)

  pub the_row : (d : A) {r : A} → o ≡ here r → row d o ≡ r
  unfolding row
  the_row d {r} e = rw e
