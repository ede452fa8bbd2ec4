-- What adjusting and inserting keep: ids that rise, rows that pass a test
use Rattle.std.proofs.Math.Path.{◌≡◌}
use mathlib.Core.List.{[], ◌∷◌}
use Rattle.std.specs.Prelude.{ℕ, ◌<◌, leb, eqb}
use Rattle.std.proofs.Common.{arith}
use borrow.Author.Tests.{leb-true, leb-false, eqb-false}
use Rattle.table.specs.Tables.{absent, here, Table, find, adjust, insert, keys}
use Rattle.table.specs.Deciding.{Is, is_true, is_false, decide}
use Rattle.table.proofs.TableLaws.{keys_adjust}
use Rattle.table.specs.Rising.{Above, Rises}
use Rattle.table.specs.Sound.{All}

module _ {A : Type 0} where
  above_insert : (p : ℕ) (t : Table A) (i : ℕ) (r : A) → p < i → Above p (keys t) → find t i ≡ absent → Above p (keys (insert t i r))
  unfolding insert keys find
  above_insert p [] i r h a n = (h, tt)
  above_insert p (e ∷ t) i r h a n = go (decide (leb e.0 i)) (decide (eqb e.0 i)) n (above_insert e.0 t i r)
    where
      go : Is (leb e.0 i) → Is (eqb e.0 i) → find (e ∷ t) i ≡ absent → (e.0 < i → Above e.0 (keys t) → find t i ≡ absent → Above e.0 (keys (insert t i r)))
          → Above p (keys (insert (e ∷ t) i r))
      go (is_true l) (is_true q) n f = let z : here e.1 ≡ absent = simp q at n in let y : ◌≡◌ {A = ℕ} 0 1 = cc in absurd (omega arith)
      go (is_true l) (is_false q) n f = rw l (a.0, f (omega (arith, leb-true e.0 i l, eqb-false e.0 i q)) a.1 (simp q at n))
      go (is_false l) q n f = rw l (h, (leb-false e.0 i l, a.1))

  pub rises_insert : (t : Table A) (i : ℕ) (r : A) → Rises (keys t) → find t i ≡ absent → Rises (keys (insert t i r))
  unfolding insert keys find
  rises_insert [] i r a n = tt
  rises_insert (e ∷ t) i r a n = go (decide (leb e.0 i)) (decide (eqb e.0 i)) n
    where
      go : Is (leb e.0 i) → Is (eqb e.0 i) → find (e ∷ t) i ≡ absent → Rises (keys (insert (e ∷ t) i r))
      go (is_true l) (is_true q) n = let z : here e.1 ≡ absent = simp q at n in let y : ◌≡◌ {A = ℕ} 0 1 = cc in absurd (omega arith)
      go (is_true l) (is_false q) n = rw l (above_insert e.0 t i r (omega (arith, leb-true e.0 i l, eqb-false e.0 i q)) a (simp q at n))
      go (is_false l) q n = rw l (leb-false e.0 i l, a)

  pub rises_adjust : (t : Table A) (i : ℕ) (f : A → A) → Rises (keys t) → Rises (keys (adjust t i f))
  rises_adjust t i f a = rw keys_adjust a

  pub all_map : (p q : A → Type 0) (t : Table A) → ((r : A) → p r → q r) → All p t → All q t
  all_map p q [] f a = tt
  all_map p q (e ∷ t) f a = (f e.1 a.0, all_map p q t f a.1)

  pub all_found : (q : A → Type 0) (t : Table A) (i : ℕ) (r : A) → All q t → find t i ≡ here r → q r
  unfolding find
  all_found q [] i r a n = let y : ◌≡◌ {A = ℕ} 0 1 = cc in absurd (omega arith)
  all_found q (e ∷ t) i r a n = go (decide (eqb e.0 i)) n (all_found q t i r a.1)
    where
      go : Is (eqb e.0 i) → find (e ∷ t) i ≡ here r → (find t i ≡ here r → q r) → q r
      go (is_true b) n k = let z : here e.1 ≡ here r = simp b at n in let y : e.1 ≡ r = cc in rw y at a.0
      go (is_false b) n k = k (simp b at n)

  pub all_adjust : (q : A → Type 0) (t : Table A) (i : ℕ) (f : A → A) (r : A) → All q t → find t i ≡ here r → q (f r) → All q (adjust t i f)
  unfolding adjust find
  all_adjust q [] i f r a n h = tt
  all_adjust q (e ∷ t) i f r a n h = go (decide (eqb e.0 i)) n (λ m. all_adjust q t i f r a.1 m h)
    where
      go : Is (eqb e.0 i) → find (e ∷ t) i ≡ here r → (find t i ≡ here r → All q (adjust t i f)) → All q (adjust (e ∷ t) i f)
      go (is_true b) n k = let z : here e.1 ≡ here r = simp b at n in let y : e.1 ≡ r = cc in rw (b, y) (h, a.1)
      go (is_false b) n k = rw b (a.0, k (simp b at n))

  pub all_insert : (q : A → Type 0) (t : Table A) (i : ℕ) (r : A) → All q t → q r → All q (insert t i r)
  unfolding insert
  all_insert q [] i r a h = (h, tt)
  all_insert q (e ∷ t) i r a h = go (decide (leb e.0 i)) (all_insert q t i r a.1 h)
    where
      go : Is (leb e.0 i) → All q (insert t i r) → All q (insert (e ∷ t) i r)
      go (is_true l) k = rw l (a.0, k)
      go (is_false l) k = rw l (h, a)
