-- Tables whose ids rise are one where every id shows the same; so the rows at two keys say what a table is that differs nowhere else. Over any row type.
use Rattle.std.specs.Prelude.{ℕ, ◌≤◌, ◌<◌, ◌≡◌, Bool, true, cond, leb}
use Rattle.std.proofs.Common.{arith, ◌∙◌}
use Rattle.std.proofs.Math.Path.{refl, sym, ap}
use Rattle.std.proofs.Math.Bool.{false}
use mathlib.Core.List.{[], ◌∷◌}
use Rattle.std.proofs.Math.Dec.{eqb}
use borrow.Author.Tests.{eqb-true, eqb-false, eq-eqb, ne_eqb, leb-true, leb-false}
use Rattle.table.specs.Tables.{Found, absent, here, Table, find, keys, fmap}
use Rattle.table.specs.Deciding.{Is, is_true, is_false, decide}
use Rattle.table.specs.Rising.{Above, Rises}
use Rattle.table.specs.RisingLaws.{above_rises}
use Rattle.table.specs.Named.{is_id, find_by, put_by}
use Rattle.table.proofs.NamedLaws.{is_named_lem, find_by_lem, rises_by}
use Rattle.table.specs.Named.{Named}

module _ {A : Type 0} where
  above_none : (p : ℕ) (t : Table A) (i : ℕ) → i ≤ p → Above p (keys t) → find t i ≡ absent
  unfolding find keys
  above_none p [] i h a = refl
  above_none p (e ∷ t) i h a = rw (ne_eqb e.0 i (λ q. omega (arith, a.0))) (above_none e.0 t i (omega (arith, a.0)) a.1)

  no_row : {X : Type 0} {r : A} → here r ≡ absent → X
  no_row {X} {r} e = let y : ◌≡◌ {A = ℕ} 0 1 = cc in absurd (omega arith)

  -- the first id, found
  head_found : (e : ℕ × A) (t : Table A) → find (e ∷ t) e.0 ≡ here e.1
  unfolding find
  head_found e t = rw (eq-eqb e.0 e.0 refl)

  -- an id below the first is not there
  lower_none : (e : ℕ × A) (t : Table A) (i : ℕ) → i < e.0 → Rises (keys (e ∷ t)) → find (e ∷ t) i ≡ absent
  unfolding find keys
  lower_none e t i h a = rw (ne_eqb e.0 i (λ q. omega arith)) (above_none e.0 t i (omega arith) a)

  tail_same : (d e : ℕ × A) (t u : Table A) → d.0 ≡ e.0 → Above d.0 (keys t) → Above e.0 (keys u) → ((i : ℕ) → find (d ∷ t) i ≡ find (e ∷ u) i) → (i : ℕ) → find t i ≡ find u i
  unfolding find
  tail_same d e t u q a b h i = go (decide (eqb d.0 i))
    where
      go : Is (eqb d.0 i) → find t i ≡ find u i
      go (is_true x) = let y = eqb-true d.0 i x in above_none d.0 t i (omega arith) a ∙ sym (above_none e.0 u i (omega arith) b)
      go (is_false x) = let y : eqb e.0 i ≡ false = ap (λ z. eqb z i) (sym q) ∙ x in simp (x, y) at (h i)

  pub alike : (t u : Table A) → Rises (keys t) → Rises (keys u) → ((i : ℕ) → find t i ≡ find u i) → t ≡ u
  unfolding keys find
  alike [] [] a b h = refl
  alike [] (e ∷ u) a b h = no_row (sym (head_found e u) ∙ sym (h e.0))
  alike (d ∷ t) [] a b h = no_row (sym (head_found d t) ∙ h d.0)
  alike (d ∷ t) (e ∷ u) a b h = go (decide (eqb d.0 e.0)) (decide (leb d.0 e.0)) (λ k. alike t u (above_rises d.0 (keys t) a) (above_rises e.0 (keys u) b) (tail_same d e t u k a b h))
    where
      go : Is (eqb d.0 e.0) → Is (leb d.0 e.0) → (d.0 ≡ e.0 → t ≡ u) → d ∷ t ≡ e ∷ u
      go (is_true q) l rest =
          let k = eqb-true d.0 e.0 q in
          let z : here d.1 ≡ here e.1 = sym (head_found d t) ∙ h d.0 ∙ ap (find (e ∷ u)) k ∙ head_found e u in
          let y : d.1 ≡ e.1 = cc in
          ap (λ x. (x, d.1) ∷ t) k ∙ ap (λ x. (e.0, x) ∷ t) y ∙ ap (λ x. e ∷ x) (rest k)
      go (is_false q) (is_true l) rest = let k = eqb-false d.0 e.0 q in let m = leb-true d.0 e.0 l in no_row (sym (head_found d t) ∙ h d.0 ∙ lower_none e u d.0 (omega arith) b)
      go (is_false q) (is_false l) rest = let m = leb-false d.0 e.0 l in no_row (sym (head_found e u) ∙ sym (h e.0) ∙ lower_none d t e.0 (omega arith) a)

  fmap_twice : (x y : A) (f : Found A) → fmap (λ old. x) (fmap (λ old. y) f) ≡ fmap (λ old. x) f
  unfolding fmap
  fmap_twice x y absent = refl
  fmap_twice x y (here r) = refl

  put_over : (t : Table A) (b : Named) (i : ℕ) (x y : A) → fmap (λ old. x) (find (put_by t b y) i) ≡ fmap (λ old. x) (find t i)
  put_over t b i x y = ap (fmap (λ old. x)) (find_by_lem t b i y) ∙ go (is_id b i)
    where
      go : (e : Bool) → fmap (λ old. x) (cond e (fmap (λ old. y) (find t i)) (find t i)) ≡ fmap (λ old. x) (find t i)
      go true = fmap_twice x y (find t i)
      go false = refl

  -- u has t's ids, and t's rows but at a and b: the rows of u at a and b, put into t, give u. `g` reads a row that was found
  module _ (g : Found A → A) (t u : Table A) (a b : Named) (rt : Rises (keys t)) (ru : Rises (keys u))
      (same-ids : (i : ℕ) → fmap (λ old. g (find u i)) (find t i) ≡ find u i)
      (elsewhere : (i : ℕ) → is_id a i ≡ false → is_id b i ≡ false → find t i ≡ find u i) where
    abbrev mid : Table A
    mid = put_by t b (g (find_by u b))

    shows : (i : ℕ) → Is (is_id a i) → Is (is_id b i) → cond (is_id a i) (fmap (λ old. g (find_by u a)) (find mid i)) (find mid i) ≡ find u i
    shows i (is_true p) q = rw p (put_over t b i (g (find_by u a)) (g (find_by u b)) ∙ ap (λ k. fmap (λ old. g (find_by u k)) (find t i)) (is_named_lem a i p) ∙ same-ids i)
    shows i (is_false p) (is_true q) = rw p (find_by_lem t b i _ ∙ ap (λ e. cond e (fmap (λ old. g (find_by u b)) (find t i)) (find t i)) q ∙ ap (λ k. fmap (λ old. g (find_by u k)) (find t i)) (is_named_lem b i q) ∙ same-ids i)
    shows i (is_false p) (is_false q) = rw p (find_by_lem t b i _ ∙ ap (λ e. cond e (fmap (λ old. g (find_by u b)) (find t i)) (find t i)) q ∙ elsewhere i p q)

    pub put_back : put_by mid a (g (find_by u a)) ≡ u
    put_back = alike (put_by mid a (g (find_by u a))) u (rises_by mid a _ (rises_by t b _ rt)) ru (λ i. find_by_lem mid a i _ ∙ shows i (decide (is_id a i)) (decide (is_id b i)))
