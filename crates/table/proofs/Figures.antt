-- A figure of one row, and the sum of it over the rows, after a row is adjusted or let in
use Rattle.std.specs.Prelude.{◌≡◌, Bool, cond, ℕ, ◌+◌, ◌≤◌, eqb, leb}
use Rattle.std.proofs.Math.Path.{refl, ap}
use Rattle.std.proofs.Common.{sym, ◌∙◌, eqb-true}
use Rattle.std.proofs.Math.Bool.{true, false}
use mathlib.Core.List.{[], ◌∷◌}
use native.Mathlib.Omega.{arith}
use Rattle.table.specs.Tables.{Found, absent, here, Table, find, adjust, insert, fmap, val, total, hit}
use Rattle.table.specs.Deciding.{Is, is_true, is_false, decide}
use Rattle.table.proofs.TableLaws.{find_adjust, find_insert}

pub hit_zero : (i a : ℕ) → hit i a 0 ≡ 0
unfolding hit
hit_zero i a = go (eqb i a)
  where
    go : (g : Bool) → ◌≡◌ {A = ℕ} (cond g 0 0) 0
    go true = refl
    go false = refl

-- a figure of what a lookup finds, where the lookup changes at one id
module _ {A : Type 0} (w : A → ℕ) (o : ℕ → Found A) (i : ℕ) where
  pub val_new : (d : A) → o i ≡ absent → (j : ℕ) → val w (cond (eqb i j) (here d) (o j)) + hit i j 0 ≡ val w (o j) + hit i j (w d)
  unfolding val hit
  val_new d n j = go (decide (eqb i j))
    where
      go : Is (eqb i j) → val w (cond (eqb i j) (here d) (o j)) + hit i j 0 ≡ val w (o j) + hit i j (w d)
      go (is_true e) = let q : o j ≡ absent = ap o (sym (eqb-true i j e)) ∙ n in simp (e, q) (omega arith)
      go (is_false e) = simp e

  -- up by x, down by y
  pub val_change : (d : A) (g : A → A) (x y : ℕ) → o i ≡ here d → w (g d) + y ≡ w d + x → (j : ℕ)
      → val w (cond (eqb i j) (fmap g (o j)) (o j)) + hit i j y ≡ val w (o j) + hit i j x
  unfolding val hit fmap
  val_change d g x y n m j = go (decide (eqb i j))
    where
      go : Is (eqb i j) → val w (cond (eqb i j) (fmap g (o j)) (o j)) + hit i j y ≡ val w (o j) + hit i j x
      go (is_true e) = let q : o j ≡ here d = ap o (sym (eqb-true i j e)) ∙ n in simp (e, q) m
      go (is_false e) = simp e

  pub val_put : (d : A) (g : A → A) → o i ≡ here d → (j : ℕ) → val w (cond (eqb i j) (fmap g (o j)) (o j)) + hit i j (w d) ≡ val w (o j) + hit i j (w (g d))
  val_put d g n j = val_change d g (w (g d)) (w d) n (omega arith) j

module _ {A : Type 0} where
  -- a sum over the rows after adjust and insert: up by x, down by y
  pub total_adjust : (w : A → ℕ) (t : Table A) (i : ℕ) (f : A → A) (r : A) (x y : ℕ) → find t i ≡ here r → w (f r) + y ≡ w r + x
      → total w (adjust t i f) + y ≡ total w t + x
  unfolding find adjust total
  total_adjust w [] i f r x y n m = cc
  total_adjust w (e ∷ t) i f r x y n m = go (decide (eqb e.0 i)) n (total_adjust w t i f r x y)
    where
      go : Is (eqb e.0 i) → find (e ∷ t) i ≡ here r → (find t i ≡ here r → w (f r) + y ≡ w r + x → total w (adjust t i f) + y ≡ total w t + x)
          → total w (adjust (e ∷ t) i f) + y ≡ total w (e ∷ t) + x
      go (is_true a) n h =
          let z : here e.1 ≡ here r = simp a at n in
          let q : e.1 ≡ r = cc in
          simp (a, q) (omega arith)
      go (is_false a) n h =
          let z : total w (adjust t i f) + y ≡ total w t + x = h (simp a at n) m in
          simp a (omega arith)

  pub total_insert : (w : A → ℕ) (t : Table A) (i : ℕ) (r : A) → total w (insert t i r) ≡ total w t + w r
  unfolding insert total
  total_insert w [] i r = omega arith
  total_insert w (e ∷ t) i r = go (decide (leb e.0 i)) (total_insert w t i r)
    where
      go : Is (leb e.0 i) → total w (insert t i r) ≡ total w t + w r → total w (insert (e ∷ t) i r) ≡ total w (e ∷ t) + w r
      go (is_true a) h = simp a (omega arith)
      go (is_false a) h = simp a (omega arith)

  -- one row's figure after adjust and insert
  pub val_adjust : (w : A → ℕ) (t : Table A) (i : ℕ) (f : A → A) (r : A) (x y : ℕ) (a : ℕ) → find t i ≡ here r → w (f r) + y ≡ w r + x
      → val w (find (adjust t i f) a) + hit i a y ≡ val w (find t a) + hit i a x
  val_adjust w t i f r x y a n m = rw find_adjust (val_change w (find t) i r f x y n m a)

  pub val_insert : (w : A → ℕ) (t : Table A) (i : ℕ) (r : A) (a : ℕ) → find t i ≡ absent
      → val w (find (insert t i r) a) ≡ val w (find t a) + hit i a (w r)
  val_insert w t i r a n = rw (find_insert t i a r n) (omega (arith, val_new w (find t) i r n a, hit_zero i a))

  -- what an adjustment leaves
  pub val_same : (w : A → ℕ) (t : Table A) (i : ℕ) (f : A → A) (a : ℕ) → ((r : A) → w (f r) ≡ w r) → val w (find (adjust t i f) a) ≡ val w (find t a)
  unfolding val fmap
  val_same w t i f a k = rw find_adjust (go (eqb i a) (find t a))
    where
      go : (g : Bool) (o : Found A) → val w (cond g (fmap f o) o) ≡ val w o
      go true absent = refl
      go true (here r) = k r
      go false o = refl

  pub total_same : (w : A → ℕ) (t : Table A) (i : ℕ) (f : A → A) → ((r : A) → w (f r) ≡ w r) → total w (adjust t i f) ≡ total w t
  unfolding total adjust
  total_same w [] i f k = refl
  total_same w (e ∷ t) i f k = go (decide (eqb e.0 i)) (total_same w t i f k)
    where
      go : Is (eqb e.0 i) → total w (adjust t i f) ≡ total w t → total w (adjust (e ∷ t) i f) ≡ total w (e ∷ t)
      go (is_true a) h = simp (a, k)
      go (is_false a) h = simp (a, h)

  -- an adjustment that lowers no row's figure lowers none
  pub val_grows : (w : A → ℕ) (t : Table A) (i : ℕ) (f : A → A) (a : ℕ) → ((r : A) → w r ≤ w (f r)) → val w (find t a) ≤ val w (find (adjust t i f) a)
  unfolding val fmap
  val_grows w t i f a k = rw find_adjust (go (eqb i a) (find t a))
    where
      go : (g : Bool) (o : Found A) → val w o ≤ val w (cond g (fmap f o) o)
      go true absent = omega arith
      go true (here r) = k r
      go false o = omega arith

module _ {A : Type 0} (w : A → ℕ) (t : Table A) (i : ℕ) (f : A → A) (r : A) (n : find t i ≡ here r) (x : ℕ) where
  pub val_up : w (f r) ≡ w r + x → (a : ℕ) → val w (find (adjust t i f) a) ≡ val w (find t a) + hit i a x
  val_up m a = omega (arith, val_adjust w t i f r x 0 a n (omega arith), hit_zero i a)

  pub val_down : w (f r) + x ≡ w r → (a : ℕ) → val w (find (adjust t i f) a) + hit i a x ≡ val w (find t a)
  val_down m a = omega (arith, val_adjust w t i f r 0 x a n (omega arith), hit_zero i a)

  pub total_up : w (f r) ≡ w r + x → total w (adjust t i f) ≡ total w t + x
  total_up m = omega (arith, total_adjust w t i f r x 0 n (omega arith))

  pub total_down : w (f r) + x ≡ w r → total w (adjust t i f) + x ≡ total w t
  total_down m = omega (arith, total_adjust w t i f r 0 x n (omega arith))
