-- The search by halves: where it goes on, where it ends, and what stands before and after that place where ids rise.
use Prim.Native.Nat.{ℕ, zero, suc, ◌+◌, ◌-◌, ◌/◌, ◌≤◌, ◌<◌}
use native.Mathlib.Omega.{arith}
use Rattle.std.specs.Prelude.{◌≡◌, Bool, List, [], ◌∷◌, get_or}
use Rattle.std.proofs.Math.Path.{refl, ap}
use Rattle.std.proofs.Common.{sym, ◌∙◌}
use Rattle.std.proofs.Math.Bool.{true, false, cond}
use Rattle.std.proofs.Math.ListN.{length}
use Rattle.std.proofs.Math.Dec.{ltb}
use borrow.Author.Tests.{lt-ltb, le-ltb, ltb-true, ltb-false}
use Rattle.table.specs.Rising.{Above, Rises}
use Rattle.table.specs.Find.{halvings, middle, place_by, place_in}
use Rattle.table.specs.Halvings.{fewer, halvings_enough}

module _ (xs : List ℕ) (id : ℕ) where
  -- ── One look ────────────────────────────────────────────────────
  abbrev next : (ℕ → ℕ → ℕ) → ℕ → ℕ → ℕ
  next f lo hi = cond (ltb (get_or xs (middle lo hi) 0) id) (f (middle lo hi + 1) hi) (f lo (middle lo hi))

  pub place_over : (k lo hi : ℕ) → hi ≤ lo → place_by k xs id lo hi ≡ lo
  unfolding place_by
  place_over zero lo hi h = refl
  place_over (suc k) lo hi h = ap (λ t. cond t (next (place_by k xs id) lo hi) lo) (le-ltb lo hi h)

  place_on : (k lo hi : ℕ) → lo < hi → place_by (suc k) xs id lo hi ≡ next (place_by k xs id) lo hi
  unfolding place_by
  place_on k lo hi h = ap (λ t. cond t (next (place_by k xs id) lo hi) lo) (lt-ltb lo hi h)

  place_up : (k lo hi : ℕ) → lo < hi → get_or xs (middle lo hi) 0 < id → place_by (suc k) xs id lo hi ≡ place_by k xs id (middle lo hi + 1) hi
  place_up k lo hi h e = place_on k lo hi h ∙ ap (λ t. cond t (place_by k xs id (middle lo hi + 1) hi) (place_by k xs id lo (middle lo hi))) (lt-ltb _ _ e)

  place_down : (k lo hi : ℕ) → lo < hi → id ≤ get_or xs (middle lo hi) 0 → place_by (suc k) xs id lo hi ≡ place_by k xs id lo (middle lo hi)
  place_down k lo hi h e = place_on k lo hi h ∙ ap (λ t. cond t (place_by k xs id (middle lo hi + 1) hi) (place_by k xs id lo (middle lo hi))) (le-ltb _ _ e)

  -- ── The loop of the code: the range that is left, and looks enough for it ──
  pub record Searching (lo hi : ℕ) : Type 0 where
    pub within : lo ≤ hi
    pub top : hi ≤ length xs
    pub looks : ℕ
    pub enough : halvings (hi - lo) ≤ looks
    pub same : place_by looks xs id lo hi ≡ place_in xs id

  pub search_start : Searching 0 (length xs)
  unfolding place_in
  search_start = let z : length xs - 0 ≡ length xs = omega arith in record { within = omega arith; top = omega arith; looks = halvings (length xs); enough = rw z (omega arith); same = refl }

  pub search_end : {lo hi : ℕ} → Searching lo hi → hi ≤ lo → place_in xs id ≡ lo
  search_end {lo} {hi} s h = sym s.same ∙ place_over s.looks lo hi h

  pub up_less : (lo hi : ℕ) → lo < hi → halvings (hi - (middle lo hi + 1)) < halvings (hi - lo)
  up_less lo hi h = fewer (hi - (middle lo hi + 1)) (hi - lo) (omega arith) (omega arith)

  pub down_less : (lo hi : ℕ) → lo < hi → halvings (middle lo hi - lo) < halvings (hi - lo)
  down_less lo hi h = fewer (middle lo hi - lo) (hi - lo) (omega arith) (omega arith)

  pub search_up : {lo hi : ℕ} → Searching lo hi → lo < hi → get_or xs (middle lo hi) 0 < id → Searching (middle lo hi + 1) hi
  search_up {lo} {hi} s h e = go s.looks s.enough s.same
    where
      go : (k : ℕ) → halvings (hi - lo) ≤ k → place_by k xs id lo hi ≡ place_in xs id → Searching (middle lo hi + 1) hi
      go zero a b = absurd (omega (arith, up_less lo hi h))
      go (suc k) a b = record { within = omega arith; top = s.top; looks = k; enough = omega (arith, up_less lo hi h); same = sym (place_up k lo hi h e) ∙ b }

  pub search_down : {lo hi : ℕ} → Searching lo hi → lo < hi → id ≤ get_or xs (middle lo hi) 0 → Searching lo (middle lo hi)
  search_down {lo} {hi} s h e = go s.looks s.enough s.same
    where
      go : (k : ℕ) → halvings (hi - lo) ≤ k → place_by k xs id lo hi ≡ place_in xs id → Searching lo (middle lo hi)
      go zero a b = absurd (omega (arith, down_less lo hi h))
      go (suc k) a b = record { within = omega arith; top = omega (arith, s.top); looks = k; enough = omega (arith, down_less lo hi h); same = sym (place_down k lo hi h e) ∙ b }

  -- ── The place, whatever stands there ────────────────────────────
  place_inside : (k lo hi : ℕ) → lo ≤ hi → place_by k xs id lo hi ≤ hi
  unfolding place_by
  place_inside zero lo hi h = h
  place_inside (suc k) lo hi h = go (ltb lo hi) refl (ltb (get_or xs (middle lo hi) 0) id) (place_inside k (middle lo hi + 1) hi) (place_inside k lo (middle lo hi))
    where
      go : (s : Bool) → ltb lo hi ≡ s → (t : Bool) → (middle lo hi + 1 ≤ hi → place_by k xs id (middle lo hi + 1) hi ≤ hi) → (lo ≤ middle lo hi → place_by k xs id lo (middle lo hi) ≤ middle lo hi)
          → cond s (cond t (place_by k xs id (middle lo hi + 1) hi) (place_by k xs id lo (middle lo hi))) lo ≤ hi
      go true e true f g = let l = ltb-true lo hi e in f (omega arith)
      go true e false f g = let l = ltb-true lo hi e in let r = g (omega arith) in omega arith
      go false e t f g = h

  pub place_most : place_in xs id ≤ length xs
  unfolding place_in
  place_most = place_inside (halvings (length xs)) 0 (length xs) (omega arith)

-- ── Where ids rise ────────────────────────────────────────────────
above_at : (p : ℕ) (xs : List ℕ) → Above p xs → (j : ℕ) → j < length xs → p < get_or xs j 0
above_at p [] a j h = absurd (omega arith)
above_at p (x ∷ xs) a zero h = a.0
above_at p (x ∷ xs) a (suc j) h = let r = above_at x xs a.1 j (omega arith) in let q = a.0 in omega arith

rise_at : (xs : List ℕ) → Rises xs → (i j : ℕ) → i < j → j < length xs → get_or xs i 0 < get_or xs j 0
rise_at [] r i j h l = absurd (omega arith)
rise_at (x ∷ xs) r i zero h l = absurd (omega arith)
rise_at (x ∷ xs) r zero (suc j) h l = above_at x xs r j (omega arith)
rise_at (x ∷ []) r (suc i) (suc j) h l = absurd (omega arith)
rise_at (x ∷ (y ∷ xs)) r (suc i) (suc j) h l = rise_at (y ∷ xs) r.1 i j (omega arith) (omega arith)

-- what is before lo is below, what is from hi on is not
pub record Split (xs : List ℕ) (id lo hi : ℕ) : Type 0 where
  pub below : (k : ℕ) → k < lo → get_or xs k 0 < id
  pub above : (k : ℕ) → hi ≤ k → k < length xs → id ≤ get_or xs k 0

module _ (xs : List ℕ) (id : ℕ) (r : Rises xs) where
  module _ {lo hi : ℕ} (h : lo < hi) (l : hi ≤ length xs) (s : Split xs id lo hi) where
    split_up : get_or xs (middle lo hi) 0 < id → Split xs id (middle lo hi + 1) hi
    split_up e = record { below = λ k m. go k m (ltb k (middle lo hi)) refl; above = s.above }
      where
        go : (k : ℕ) → k < middle lo hi + 1 → (t : Bool) → ltb k (middle lo hi) ≡ t → get_or xs k 0 < id
        go k m true q = omega (arith, rise_at xs r k (middle lo hi) (ltb-true k (middle lo hi) q) (omega arith), e)
        go k m false q = let z : k ≡ middle lo hi = omega (arith, ltb-false k (middle lo hi) q) in rw z e

    split_down : id ≤ get_or xs (middle lo hi) 0 → Split xs id lo (middle lo hi)
    split_down e = record { below = s.below; above = λ k m n. go k m n (ltb (middle lo hi) k) refl }
      where
        go : (k : ℕ) → middle lo hi ≤ k → k < length xs → (t : Bool) → ltb (middle lo hi) k ≡ t → id ≤ get_or xs k 0
        go k m n true q = omega (arith, rise_at xs r (middle lo hi) k (ltb-true (middle lo hi) k q) n, e)
        go k m n false q = let z : k ≡ middle lo hi = omega (arith, ltb-false (middle lo hi) k q) in rw z e

  abbrev Ends : ℕ → ℕ → ℕ → Type 0
  Ends k lo hi = Split xs id (place_by k xs id lo hi) (place_by k xs id lo hi)

  split_over : (k lo hi : ℕ) → lo ≤ hi → hi ≤ lo → Split xs id lo hi → Ends k lo hi
  split_over k lo hi w h s = rw (place_over xs id k lo hi h) (record { below = s.below; above = λ j m n. s.above j (omega arith) n })

  split_by : (k lo hi : ℕ) → lo ≤ hi → hi ≤ length xs → halvings (hi - lo) ≤ k → Split xs id lo hi → Ends k lo hi
  split_by zero lo hi w l a s = go (ltb lo hi) refl
    where
      go : (t : Bool) → ltb lo hi ≡ t → Ends 0 lo hi
      go true e = absurd (omega (arith, down_less xs id lo hi (ltb-true lo hi e)))
      go false e = split_over 0 lo hi w (ltb-false lo hi e) s
  split_by (suc k) lo hi w l a s = go (ltb lo hi) refl (ltb (get_or xs (middle lo hi) 0) id) refl (split_by k (middle lo hi + 1) hi) (split_by k lo (middle lo hi))
    where
      go : (t : Bool) → ltb lo hi ≡ t → (u : Bool) → ltb (get_or xs (middle lo hi) 0) id ≡ u
          → (middle lo hi + 1 ≤ hi → hi ≤ length xs → halvings (hi - (middle lo hi + 1)) ≤ k → Split xs id (middle lo hi + 1) hi → Ends k (middle lo hi + 1) hi)
          → (lo ≤ middle lo hi → middle lo hi ≤ length xs → halvings (middle lo hi - lo) ≤ k → Split xs id lo (middle lo hi) → Ends k lo (middle lo hi))
          → Ends (suc k) lo hi
      go false e u f upper lower = split_over (suc k) lo hi w (ltb-false lo hi e) s
      go true e true f upper lower =
          let h = ltb-true lo hi e in
          let v = ltb-true (get_or xs (middle lo hi) 0) id f in
          rw (place_up xs id k lo hi h v) (upper (omega arith) l (omega (arith, up_less xs id lo hi h)) (split_up h l s v))
      go true e false f upper lower =
          let h = ltb-true lo hi e in
          let v = ltb-false (get_or xs (middle lo hi) 0) id f in
          rw (place_down xs id k lo hi h v) (lower (omega arith) (omega arith) (omega (arith, down_less xs id lo hi h)) (split_down h l s v))

  pub split_at : Split xs id (place_in xs id) (place_in xs id)
  unfolding place_in
  split_at = let z : length xs - 0 ≡ length xs = omega arith in split_by (halvings (length xs)) 0 (length xs) (omega arith) (omega arith) (rw z (omega arith)) (record { below = λ k m. absurd (omega arith); above = λ k m n. absurd (omega arith) })
