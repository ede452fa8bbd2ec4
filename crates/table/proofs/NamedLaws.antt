-- What is found after a named row was put. Over any row type.
use Rattle.std.specs.Prelude.{ℕ, ◌≡◌, Bool, true, false, cond, eqb}
use Rattle.std.proofs.Common.{arith, sym, ap, eqb-true, eq-eqb, ne_eqb}
use Rattle.std.proofs.Math.Path.{refl}
use Rattle.std.proofs.lemmas.Bool.{eqb-false}
use Rattle.table.specs.Tables.{Found, here, Table, find, keys, fmap}
use Rattle.table.proofs.TableLaws.{find_adjust}
use Rattle.table.proofs.SameId.{find-put, put_twice, adjust_back}
use Rattle.table.specs.Rising.{Rises}
use Rattle.table.proofs.Sound.{rises_adjust}
use Rattle.table.specs.Keeping.{Fine}
use Rattle.table.proofs.Keeping.{fine_adjust}
use Rattle.table.specs.Named.{is_id, same, find_by, put_by}
use Rattle.table.specs.Named.{Named}
use Rattle.std.specs.Prelude.{None, Some}

pub never : {X : Type 0} → true ≡ false → X
never e = let y : ◌≡◌ {A = ℕ} 0 1 = cc in absurd (omega arith)

pub is_named_lem : (k : Named) (i : ℕ) → is_id k i ≡ true → k ≡ Some i
is_named_lem None i e = never (sym e)
is_named_lem (Some j) i e = ap Some (eqb-true j i e)

pub same_swap : (j k : Named) → same j k ≡ same k j
same_swap None None = refl
same_swap None (Some b) = refl
same_swap (Some a) None = refl
same_swap (Some a) (Some b) = go (eqb b a) refl
  where
    go : (e : Bool) → eqb b a ≡ e → eqb a b ≡ e
    go true e = eq-eqb a b (sym (eqb-true b a e))
    go false e = ne_eqb a b (λ q. eqb-false b a e (sym q))

module _ {A : Type 0} where
  pub find_by_lem : (t : Table A) (k : Named) (j : ℕ) (x : A) → find (put_by t k x) j ≡ cond (is_id k j) (fmap (λ old. x) (find t j)) (find t j)
  find_by_lem t None j x = refl
  find_by_lem t (Some i) j x = find_adjust t i j (λ old. x)

  -- at the key itself
  pub found_by : (t : Table A) (k : Named) (x : A) → find_by (put_by t k x) k ≡ fmap (λ old. x) (find_by t k)
  unfolding fmap
  found_by t None x = refl
  found_by t (Some i) x = find-put t i x

  -- at another, which may name the same row
  pub found_other : (t : Table A) (k j : Named) (x : A) → find_by (put_by t k x) j ≡ cond (same k j) (fmap (λ old. x) (find_by t j)) (find_by t j)
  found_other t None None x = refl
  found_other t None (Some j) x = refl
  found_other t (Some i) None x = refl
  found_other t (Some i) (Some j) x = find_adjust t i j (λ old. x)

  pub same_found : (t : Table A) (k j : Named) → same k j ≡ true → find_by t k ≡ find_by t j
  same_found t None j e = never (sym e)
  same_found t (Some i) None e = never (sym e)
  same_found t (Some i) (Some j) e = ap (find t) (eqb-true i j e)

  pub rises_by : (t : Table A) (k : Named) (x : A) → Rises (keys t) → Rises (keys (put_by t k x))
  rises_by t None x r = r
  rises_by t (Some i) x r = rises_adjust t i (λ old. x) r

  pub fine_by : {n : ℕ} {t : Table A} → Fine n t → (k : Named) (x : A) → Fine n (put_by t k x)
  fine_by f None x = f
  fine_by f (Some i) x = fine_adjust f i (λ old. x)

  pub put_again : (t : Table A) (k : Named) (x y : A) → put_by (put_by t k x) k y ≡ put_by t k y
  put_again t None x y = refl
  put_again t (Some i) x y = put_twice t i x y

  -- the row that was found, put back
  pub put_back_by : (g : Found A → A) → ((r : A) → g (here r) ≡ r) → (t : Table A) (k : Named) → put_by t k (g (find_by t k)) ≡ t
  put_back_by g h t None = refl
  put_back_by g h t (Some i) = adjust_back g h t i
