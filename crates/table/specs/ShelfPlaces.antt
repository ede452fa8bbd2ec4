-- What a search of the ids says of the table: a row that stands at k, and the place for a row to come
use Rattle.std.specs.Prelude.{◌≡◌, false, length, get_or, set, eqb}
use Rattle.std.proofs.Math.Path.{refl}
use Rattle.std.proofs.Common.{ap, arith}
use mathlib.Core.List.{[], ◌∷◌}
use Prim.Native.Nat.{ℕ, zero, suc, ◌≤◌, ◌<◌}
use borrow.Author.Tests.{eq-eqb, ne_eqb, le-leb, lt-leb}
use Rattle.table.specs.Tables.{absent, here, Table, find, adjust, insert, keys, held}
use Rattle.table.specs.Shift.{insert_at}
use Rattle.table.specs.Rising.{Above, Rises}
use Rattle.table.specs.RisingLaws.{above_rises}
use Rattle.table.specs.Padded.{padded, push}
use Rattle.table.specs.Seek.{Stands, Place, stands_tail, place-tail}

module _ {A : Type 0} where
  -- the row that stands at k, found and put anew
  stands_not : (e : ℕ × A) (t : Table A) (i k : ℕ) → Stands (keys (e ∷ t)) i (suc k) → eqb e.0 i ≡ false
  unfolding keys
  stands_not e t i k s = ne_eqb e.0 i (λ q. omega (arith, s.below 0 (omega arith)))

  pub find_there : (d : A) (n : ℕ) (t : Table A) (i k : ℕ) → length t ≤ n → Stands (keys t) i k → find t i ≡ here (get_or (padded d held n t) k d)
  unfolding find padded keys
  find_there d n [] i k h s = absurd (omega (arith, s.within))
  find_there d zero (e ∷ t) i k h s = absurd (omega arith)
  find_there d (suc n) (e ∷ t) i zero h s = rw (eq-eqb e.0 i s.same)
  find_there d (suc n) (e ∷ t) i (suc k) h s = rw (stands_not e t i k s) (find_there d n t i k (omega arith) (stands_tail s))

  pub put_there : (d : A) (n : ℕ) (t : Table A) (i k : ℕ) (f : A → A) → length t ≤ n → Stands (keys t) i k
      → set (padded d held n t) k (f (get_or (padded d held n t) k d)) ≡ padded d held n (adjust t i f)
  unfolding adjust padded keys
  put_there d n [] i k f h s = absurd (omega (arith, s.within))
  put_there d zero (e ∷ t) i k f h s = absurd (omega arith)
  put_there d (suc n) (e ∷ t) i zero f h s = rw (eq-eqb e.0 i s.same)
  put_there d (suc n) (e ∷ t) i (suc k) f h s = rw (stands_not e t i k s) (ap (λ z. e.1 ∷ z) (put_there d n t i k f (omega arith) (stands_tail s)))

  above_none : (p : ℕ) (t : Table A) (i : ℕ) → i ≤ p → Above p (keys t) → find t i ≡ absent
  unfolding find keys
  above_none p [] i h a = refl
  above_none p (e ∷ t) i h a = rw (ne_eqb e.0 i (λ q. omega (arith, a.0))) (above_none e.0 t i (omega (arith, a.0)) a.1)

  pub find_gone : (t : Table A) (i k : ℕ) → Rises (keys t) → Place (keys t) i k → find t i ≡ absent
  unfolding find keys
  find_gone [] i k a p = refl
  find_gone (e ∷ t) i zero a p =
      let l : i < e.0 = p.above (omega arith) in
      rw (ne_eqb e.0 i (λ q. omega arith)) (above_none e.0 t i (omega arith) a)
  find_gone (e ∷ t) i (suc k) a p =
      rw (ne_eqb e.0 i (λ q. omega (arith, p.below 0 (omega arith))))
      (find_gone t i k (above_rises e.0 (keys t) a) (place-tail p))

  pub insert_there : {B : Type 0} (d : B) (g : ℕ × A → B) (n : ℕ) (t : Table A) (i k : ℕ) (r : A) → length t < n → Place (keys t) i k
      → insert_at k (g (i, r)) (padded d g n t) ≡ padded d g n (insert t i r)
  unfolding insert padded keys
  insert_there d g zero t i k r h p = absurd (omega arith)
  insert_there d g (suc n) [] i zero r h p = push d g (suc n) (i, r) [] (omega arith)
  insert_there d g (suc n) [] i (suc k) r h p = absurd (omega (arith, p.within))
  insert_there d g (suc n) (e ∷ t) i zero r h p = rw (lt-leb e.0 i (p.above (omega arith))) (push d g (suc n) (i, r) (e ∷ t) h)
  insert_there d g (suc n) (e ∷ t) i (suc k) r h p =
      let l : e.0 < i = p.below 0 (omega arith) in
      rw (le-leb e.0 i (omega arith))
      (ap (λ z. g e ∷ z) (insert_there d g n t i k r (omega arith) (place-tail p)))
