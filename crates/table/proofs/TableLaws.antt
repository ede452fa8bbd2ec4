-- What is found in a table after a row is adjusted or let in
use Rattle.std.proofs.Math.Path.{◌≡◌, refl, ap}
use Rattle.std.proofs.Common.{sym, ◌∙◌, arith}
use Rattle.std.specs.Prelude.{Bool, eqb, leb}
use Rattle.std.proofs.Math.Bool.{true, false, cond}
use mathlib.Core.List.{[], ◌∷◌}
use Prim.Native.Nat.{ℕ, suc}
use Rattle.std.proofs.Math.ListN.{length}
use borrow.Author.Tests.{eqb-true, eqb-false}
use Rattle.table.specs.Tables.{Found, absent, here, Table, find, adjust, insert, keys, fmap}
use Rattle.table.specs.Deciding.{Is, is_true, is_false, decide}
use Rattle.table.specs.Rows.{fmap_cond}

module _ {A : Type 0} where
  -- find after adjust
  pub find_adjust : (t : Table A) (i j : ℕ) (f : A → A) → find (adjust t i f) j ≡ cond (eqb i j) (fmap f (find t j)) (find t j)
  unfolding find adjust fmap
  find_adjust [] i j f = elim (eqb i j) as (λ g. ◌≡◌ {A = Found A} absent (cond g absent absent)) [ true ↦ refl | false ↦ refl ]
  find_adjust (e ∷ t) i j f = go (decide (eqb e.0 i)) (decide (eqb e.0 j)) (decide (eqb i j)) (find_adjust t i j f)
    where
      go : Is (eqb e.0 i) → Is (eqb e.0 j) → Is (eqb i j)
          → find (adjust t i f) j ≡ cond (eqb i j) (fmap f (find t j)) (find t j)
          → find (adjust (e ∷ t) i f) j ≡ cond (eqb i j) (fmap f (find (e ∷ t) j)) (find (e ∷ t) j)
      go (is_true a) (is_true b) (is_true c) h = simp (a, b, c)
      go (is_true a) (is_false b) (is_false c) h = simp (a, b, c)
      go (is_true a) (is_true b) (is_false c) h = absurd (omega (arith, eqb-true e.0 i a, eqb-true e.0 j b, eqb-false i j c))
      go (is_true a) (is_false b) (is_true c) h = absurd (omega (arith, eqb-true e.0 i a, eqb-false e.0 j b, eqb-true i j c))
      go (is_false a) (is_true b) (is_true c) h = absurd (omega (arith, eqb-false e.0 i a, eqb-true e.0 j b, eqb-true i j c))
      go (is_false a) (is_true b) (is_false c) h = simp (a, b, c)
      go (is_false a) (is_false b) (is_true c) h = simp (a, b, c, h)
      go (is_false a) (is_false b) (is_false c) h = simp (a, b, c, h)

  pub find_insert : (t : Table A) (i j : ℕ) (r : A) → find t i ≡ absent → find (insert t i r) j ≡ cond (eqb i j) (here r) (find t j)
  unfolding find insert
  find_insert [] i j r n = refl
  find_insert (e ∷ t) i j r n = go (decide (leb e.0 i)) (decide (eqb e.0 i)) (decide (eqb e.0 j)) (decide (eqb i j)) n (find_insert t i j r)
    where
      go : Is (leb e.0 i) → Is (eqb e.0 i) → Is (eqb e.0 j) → Is (eqb i j) → find (e ∷ t) i ≡ absent
          → (find t i ≡ absent → find (insert t i r) j ≡ cond (eqb i j) (here r) (find t j))
          → find (insert (e ∷ t) i r) j ≡ cond (eqb i j) (here r) (find (e ∷ t) j)
      go (is_false l) a b c n h = simp l
      go (is_true l) (is_true a) b c n h = let z : here e.1 ≡ absent = simp a at n in cc
      go (is_true l) (is_false a) (is_true b) (is_true c) n h = absurd (omega (arith, eqb-false e.0 i a, eqb-true e.0 j b, eqb-true i j c))
      go (is_true l) (is_false a) (is_true b) (is_false c) n h = simp (l, b, c)
      go (is_true l) (is_false a) (is_false b) c n h = simp (l, b, h (simp a at n))

  -- what a view of the rows shows after adjust and insert
  pub view_adjust : {B : Type 0} (v : A → B) (t : Table A) (i j : ℕ) (f : A → A) (g : B → B) → ((r : A) → v (f r) ≡ g (v r))
      → fmap v (find (adjust t i f) j) ≡ cond (eqb i j) (fmap g (fmap v (find t j))) (fmap v (find t j))
  unfolding fmap
  view_adjust v t i j f g k = rw (find_adjust, fmap_cond) (ap (λ z. cond (eqb i j) z (fmap v (find t j))) (go (find t j)))
    where
      go : (o : Found A) → fmap v (fmap f o) ≡ fmap g (fmap v o)
      go absent = refl
      go (here r) = ap here (k r)

  pub view_insert : {B : Type 0} (v : A → B) (t : Table A) (i j : ℕ) (r : A) → find t i ≡ absent
      → fmap v (find (insert t i r) j) ≡ cond (eqb i j) (here (v r)) (fmap v (find t j))
  unfolding fmap
  view_insert v t i j r n = rw (find_insert t i j r n, fmap_cond)

  -- a view that an adjustment leaves
  pub view_same : {B : Type 0} (v : A → B) (t : Table A) (i j : ℕ) (f : A → A) → ((r : A) → v (f r) ≡ v r) → fmap v (find (adjust t i f) j) ≡ fmap v (find t j)
  unfolding fmap
  view_same v t i j f k = rw find_adjust (go (eqb i j) (find t j))
    where
      go : (g : Bool) (o : Found A) → fmap v (cond g (fmap f o) o) ≡ fmap v o
      go true absent = refl
      go true (here r) = ap here (k r)
      go false o = refl

  -- nothing to adjust
  pub adjust_absent : (t : Table A) (i : ℕ) (f : A → A) → find t i ≡ absent → adjust t i f ≡ t
  unfolding adjust find
  adjust_absent [] i f n = refl
  adjust_absent (e ∷ t) i f n = go (decide (eqb e.0 i)) n (adjust_absent t i f)
    where
      go : Is (eqb e.0 i) → find (e ∷ t) i ≡ absent → (find t i ≡ absent → adjust t i f ≡ t) → adjust (e ∷ t) i f ≡ e ∷ t
      go (is_true a) n h = let z : here e.1 ≡ absent = simp a at n in cc
      go (is_false a) n h = rw a (ap (λ z. e ∷ z) (h (simp a at n)))

  -- a row found is a row put
  pub adjust_to : (t : Table A) (i : ℕ) (f g : A → A) (r : A) → find t i ≡ here r → f r ≡ g r → adjust t i f ≡ adjust t i g
  unfolding adjust find
  adjust_to [] i f g r n h = refl
  adjust_to (e ∷ t) i f g r n h = go (decide (eqb e.0 i)) n (λ m. adjust_to t i f g r m h)
    where
      go : Is (eqb e.0 i) → find (e ∷ t) i ≡ here r → (find t i ≡ here r → adjust t i f ≡ adjust t i g) → adjust (e ∷ t) i f ≡ adjust (e ∷ t) i g
      go (is_true b) n k = let z : here e.1 ≡ here r = simp b at n in let y : e.1 ≡ r = cc in rw (b, y, h)
      go (is_false b) n k = rw b (ap (λ z. e ∷ z) (k (simp b at n)))

  -- the ids, and how many rows
  pub keys_adjust : (t : Table A) (i : ℕ) (f : A → A) → keys (adjust t i f) ≡ keys t
  unfolding adjust keys
  keys_adjust [] i f = refl
  keys_adjust (e ∷ t) i f = go (eqb e.0 i) (keys_adjust t i f)
    where
      go : (g : Bool) → keys (adjust t i f) ≡ keys t → keys (cond g ((e.0, f e.1) ∷ t) (e ∷ adjust t i f)) ≡ e.0 ∷ keys t
      go true h = refl
      go false h = ap (λ z. e.0 ∷ z) h

  pub length-keys : (t : Table A) → length (keys t) ≡ length t
  unfolding keys
  length-keys [] = refl
  length-keys (e ∷ t) = ap suc (length-keys t)

  pub length_adjust : (t : Table A) (i : ℕ) (f : A → A) → length (adjust t i f) ≡ length t
  length_adjust t i f = sym (length-keys (adjust t i f)) ∙ ap length (keys_adjust t i f) ∙ length-keys t

  pub length-insert : (t : Table A) (i : ℕ) (r : A) → length (insert t i r) ≡ suc (length t)
  unfolding insert
  length-insert [] i r = refl
  length-insert (e ∷ t) i r = go (leb e.0 i) (length-insert t i r)
    where
      go : (g : Bool) → length (insert t i r) ≡ suc (length t) → length (cond g (e ∷ insert t i r) ((i, r) ∷ (e ∷ t))) ≡ suc (suc (length t))
      go true h = ap suc h
      go false h = refl
