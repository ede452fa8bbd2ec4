-- Figures over the integers: what one row shows, and the sum over rows or ids, after a row is put anew or let in. Assumes nothing.
use Rattle.std.specs.Prelude.{ℕ, ◌+◌, ◌≡◌, Bool, cond, eqb, leb, ℤ, pos, ◌+ℤ◌}
use Rattle.std.proofs.Common.{arith, ◌∙◌}
use Rattle.std.proofs.Math.Path.{refl, sym, ap}
use Rattle.std.proofs.Math.Bool.{true, false}
use mathlib.Core.List.{List, [], ◌∷◌}
use Rattle.std.proofs.Math.IntN.{+ℤ_assoc, +ℤ_comm, +ℤ_idr}
use borrow.Author.Tests.{eqb-true, eqb-false, eq-eqb, ne_eqb}
use Rattle.refusal.specs.Choice.{pick}
use Rattle.refusal.specs.ChoiceLaws.{pick_on, pick_off}
use Rattle.table.specs.Tables.{Found, absent, here, Table, find, adjust, insert, fmap, hit}
use Rattle.table.specs.Deciding.{Is, is_true, is_false, decide}
use Rattle.table.proofs.TableLaws.{find_adjust, find_insert}
use Rattle.table.specs.Sums.{count}
use Rattle.history.specs.History.{sum, share}

pub swap : (a b c : ℤ) → a +ℤ b +ℤ c ≡ a +ℤ c +ℤ b
swap a b c = +ℤ_assoc a b c ∙ ap (λ z. a +ℤ z) (+ℤ_comm b c) ∙ sym (+ℤ_assoc a c b)

-- ── What is found at j after a row is put anew or let in at i ─────
abbrev pub put : {A : Type 0} → Table A → ℕ → A → Table A
put t i r = adjust t i (λ old. r)

module _ {A B : Type 0} (v : Found A → B) (t : Table A) (i : ℕ) where
  pub at_put : (r new : A) → find t i ≡ here r → (j : ℕ) → v (find (put t i new) j) ≡ pick (eqb i j) (v (here new)) (v (find t j))
  unfolding fmap pick
  at_put r new n j = rw find_adjust (go (decide (eqb i j)))
    where
      go : Is (eqb i j) → v (cond (eqb i j) (fmap (λ old. new) (find t j)) (find t j)) ≡ pick (eqb i j) (v (here new)) (v (find t j))
      go (is_true e) = let q : find t j ≡ here r = ap (find t) (sym (eqb-true i j e)) ∙ n in simp (e, q)
      go (is_false e) = simp e

  pub at_insert : (r : A) → find t i ≡ absent → (j : ℕ) → v (find (insert t i r) j) ≡ pick (eqb i j) (v (here r)) (v (find t j))
  unfolding pick
  at_insert r n j = rw (find_insert t i j r n) (go (eqb i j))
    where
      go : (g : Bool) → v (cond g (here r) (find t j)) ≡ pick g (v (here r)) (v (find t j))
      go true = refl
      go false = refl

  -- a row that shows what stood there
  pub at_kept : (new : A) → v (here new) ≡ v (find t i) → (j : ℕ) → v (find (put t i new) j) ≡ v (find t j)
  unfolding fmap
  at_kept new h j = rw find_adjust (go (decide (eqb i j)) (find t j) refl)
    where
      go : Is (eqb i j) → (o : Found A) → find t j ≡ o → v (cond (eqb i j) (fmap (λ old. new) o) o) ≡ v o
      go (is_true e) absent q = simp e
      go (is_true e) (here r) q = simp e (h ∙ ap v (ap (find t) (eqb-true i j e) ∙ q))
      go (is_false e) o q = simp e

pub share_on : (i j : ℕ) (x : ℤ) → eqb i j ≡ true → share i j x ≡ x
unfolding share
share_on i j x e = pick_on x (pos 0) e

pub share_off : (i j : ℕ) (x : ℤ) → eqb i j ≡ false → share i j x ≡ pos 0
unfolding share
share_off i j x e = pick_off x (pos 0) e

-- ── A figure of the rows, and its sum over them ───────────────────
abbrev pub tally : {A : Type 0} → (Found A → ℤ) → Table A → ℤ
tally v t = sum (λ e. v (here e.1)) t

module _ {A : Type 0} (v : Found A → ℤ) where
  -- up by x
  pub figure_put : (t : Table A) (i : ℕ) (r new : A) (x : ℤ) → find t i ≡ here r → v (here new) ≡ v (find t i) +ℤ x → (j : ℕ)
      → v (find (put t i new) j) ≡ v (find t j) +ℤ share i j x
  figure_put t i r new x n h j = at_put v t i r new n j ∙ go (eqb i j) refl
    where
      go : (g : Bool) → eqb i j ≡ g → pick (eqb i j) (v (here new)) (v (find t j)) ≡ v (find t j) +ℤ share i j x
      go true e = pick_on _ _ e ∙ h ∙ ap (λ k. v (find t k) +ℤ x) (eqb-true i j e) ∙ ap (λ z. v (find t j) +ℤ z) (sym (share_on i j x e))
      go false e = pick_off _ _ e ∙ sym (ap (λ z. v (find t j) +ℤ z) (share_off i j x e) ∙ +ℤ_idr (v (find t j)))

  pub tally_put : (t : Table A) (i : ℕ) (r new : A) (x : ℤ) → find t i ≡ here r → v (here new) ≡ v (find t i) +ℤ x → tally v (put t i new) ≡ tally v t +ℤ x
  unfolding find adjust sum
  tally_put [] i r new x n h = cc
  tally_put (e ∷ t) i r new x n h = go (decide (eqb e.0 i)) n h (tally_put t i r new x)
    where
      go : Is (eqb e.0 i) → find (e ∷ t) i ≡ here r → v (here new) ≡ v (find (e ∷ t) i) +ℤ x
          → (find t i ≡ here r → v (here new) ≡ v (find t i) +ℤ x → tally v (put t i new) ≡ tally v t +ℤ x) → tally v (put (e ∷ t) i new) ≡ tally v (e ∷ t) +ℤ x
      go (is_true a) n h k =
          let q : v (here new) ≡ v (here e.1) +ℤ x = simp a at h in
          simp a (ap (λ z. tally v t +ℤ z) q ∙ sym (+ℤ_assoc (tally v t) (v (here e.1)) x))
      go (is_false a) n h k = simp a (ap (λ z. z +ℤ v (here e.1)) (k (simp a at n) (simp a at h)) ∙ swap (tally v t) x (v (here e.1)))

  pub tally_kept : (t : Table A) (i : ℕ) (new : A) → v (here new) ≡ v (find t i) → tally v (put t i new) ≡ tally v t
  unfolding find adjust sum
  tally_kept [] i new h = refl
  tally_kept (e ∷ t) i new h = go (decide (eqb e.0 i)) h (tally_kept t i new)
    where
      go : Is (eqb e.0 i) → v (here new) ≡ v (find (e ∷ t) i) → (v (here new) ≡ v (find t i) → tally v (put t i new) ≡ tally v t) → tally v (put (e ∷ t) i new) ≡ tally v (e ∷ t)
      go (is_true a) h k = let q : v (here new) ≡ v (here e.1) = simp a at h in simp a (ap (λ z. tally v t +ℤ z) q)
      go (is_false a) h k = simp a (ap (λ z. z +ℤ v (here e.1)) (k (simp a at h)))

  pub tally_insert : (t : Table A) (i : ℕ) (r : A) → tally v (insert t i r) ≡ tally v t +ℤ v (here r)
  unfolding insert sum
  tally_insert [] i r = refl
  tally_insert (e ∷ t) i r = go (decide (leb e.0 i)) (tally_insert t i r)
    where
      go : Is (leb e.0 i) → tally v (insert t i r) ≡ tally v t +ℤ v (here r) → tally v (insert (e ∷ t) i r) ≡ tally v (e ∷ t) +ℤ v (here r)
      go (is_true a) h = simp a (ap (λ z. z +ℤ v (here e.1)) h ∙ swap (tally v t) (v (here r)) (v (here e.1)))
      go (is_false a) h = simp a

-- ── A sum over ids, where the figure of one of them moves by x ────
module _ (f g : ℕ → ℤ) (i : ℕ) (x : ℤ) (k : (j : ℕ) → g j ≡ f j +ℤ share i j x) where
  other : (j : ℕ) → eqb i j ≡ false → g j ≡ f j
  other j e = k j ∙ ap (λ z. f j +ℤ z) (share_off i j x e) ∙ +ℤ_idr (f j)

  -- i is not among them
  pub sum_none : (l : List ℕ) → count i l ≡ 0 → sum g l ≡ sum f l
  unfolding sum count hit
  sum_none [] c = refl
  sum_none (j ∷ l) c = go (decide (eqb j i)) c (sum_none l)
    where
      go : Is (eqb j i) → count i (j ∷ l) ≡ 0 → (count i l ≡ 0 → sum g l ≡ sum f l) → sum g (j ∷ l) ≡ sum f (j ∷ l)
      go (is_true a) c h = let z : 1 + count i l ≡ 0 = simp a at c in absurd (omega arith)
      go (is_false a) c h =
          let z : 0 + count i l ≡ 0 = simp a at c in
          ap (λ y. y +ℤ g j) (h (omega arith)) ∙ ap (λ y. sum f l +ℤ y) (other j (ne_eqb i j (λ e. eqb-false j i a (sym e))))

  -- i is there once
  pub sum_once : (l : List ℕ) → count i l ≡ 1 → sum g l ≡ sum f l +ℤ x
  unfolding sum count hit
  sum_once [] c = absurd (omega arith)
  sum_once (j ∷ l) c = go (decide (eqb j i)) c (sum_once l)
    where
      go : Is (eqb j i) → count i (j ∷ l) ≡ 1 → (count i l ≡ 1 → sum g l ≡ sum f l +ℤ x) → sum g (j ∷ l) ≡ sum f (j ∷ l) +ℤ x
      go (is_true a) c h =
          let z : 1 + count i l ≡ 1 = simp a at c in
          let e : i ≡ j = sym (eqb-true j i a) in
          ap (λ y. y +ℤ g j) (sum_none l (omega arith)) ∙ ap (λ y. sum f l +ℤ y) (k j ∙ ap (λ y. f j +ℤ y) (share_on i j x (eq-eqb i j e))) ∙ sym (+ℤ_assoc (sum f l) (f j) x)
      go (is_false a) c h =
          let z : 0 + count i l ≡ 1 = simp a at c in
          ap (λ y. y +ℤ g j) (h (omega arith)) ∙ ap (λ y. sum f l +ℤ x +ℤ y) (other j (ne_eqb i j (λ e. eqb-false j i a (sym e)))) ∙ swap (sum f l) x (f j)
