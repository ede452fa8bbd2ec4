-- An element put into an array that keeps its length, and the loop that does it in place. Over any element type.
use Rattle.std.specs.Prelude.{ℕ, zero, suc, ◌≤◌, ◌<◌, ◌≡◌, refl, List, [], ◌∷◌, length, get_or, set}
use Rattle.std.proofs.Common.{le_of_suc-le-suc, not-suc-le-zero, arith, sym, ap, ◌∙◌, length-set, get_or-set_other}

module _ {ℓ} {A : Type ℓ} where
  -- xs with x at k: what stands there and after it moves up by one, and the last goes
  abbrev pub insert_at : ℕ → A → List A → List A
  insert_at k x [] = []
  insert_at zero x (y ∷ ys) = x ∷ insert_at zero y ys
  insert_at (suc k) x (y ∷ ys) = y ∷ insert_at k x ys

  -- an insertion keeps the length
  pub length_insert_at : (i : ℕ) (x : A) (xs : List A) → length (insert_at i x xs) ≡ length xs
  length_insert_at i x [] = refl
  length_insert_at zero x (y ∷ ys) = ap suc (length_insert_at zero y ys)
  length_insert_at (suc i) x (y ∷ ys) = ap suc (length_insert_at i x ys)

-- ── In place, from the count down to the element's place ──────────
module _ {A : Type 0} where
  -- from i on all is d
  abbrev Free : A → List A → ℕ → Type 0
  Free d xs i = (j : ℕ) → i ≤ j → j < length xs → get_or xs j d ≡ d

  flat : (xs : List A) (i : ℕ) (d : A) → Free d xs i → insert_at i d xs ≡ xs
  flat [] i d f = refl
  flat (y ∷ ys) zero d f = ap (λ z. d ∷ insert_at zero z ys) (f 0 (omega arith) (omega arith)) ∙ ap (λ z. d ∷ z) (flat ys zero d (λ j a b. f (suc j) (omega arith) (omega arith))) ∙ ap (λ z. z ∷ ys) (sym (f 0 (omega arith) (omega arith)))
  flat (y ∷ ys) (suc i) d f = ap (λ z. y ∷ z) (flat ys i d (λ j a b. f (suc j) (omega arith) (omega arith)))

  -- past the count nothing has to move
  put_last : (xs : List A) (i : ℕ) (x d : A) → Free d xs i → set xs i x ≡ insert_at i x xs
  put_last [] i x d f = refl
  put_last (y ∷ ys) zero x d f = ap (λ z. x ∷ z) (sym (ap (λ z. insert_at zero z ys) (f 0 (omega arith) (omega arith)) ∙ flat ys zero d (λ j a b. f (suc j) (omega arith) (omega arith))))
  put_last (y ∷ ys) (suc i) x d f = ap (λ z. y ∷ z) (put_last ys i x d (λ j a b. f (suc j) (omega arith) (omega arith)))

  below : (xs : List A) (i j : ℕ) (x e : A) → j < i → get_or (insert_at i x xs) j e ≡ get_or xs j e
  below [] i j x e h = refl
  below (y ∷ ys) zero j x e h = absurd (not-suc-le-zero h)
  below (y ∷ ys) (suc i) zero x e h = refl
  below (y ∷ ys) (suc i) (suc j) x e h = below ys i j x e (le_of_suc-le-suc h)

  one_lower : (xs : List A) (j : ℕ) (x e : A) → set (insert_at (suc j) (get_or xs j e) xs) j x ≡ insert_at j x xs
  one_lower [] j x e = refl
  one_lower (y ∷ ys) zero x e = refl
  one_lower (y ∷ ys) (suc j) x e = ap (λ z. y ∷ z) (one_lower ys j x e)

  -- the loop's invariant: ys is xs with all from i to the count moved up, so that what is put at i is put in
  pub record Lifts (n : ℕ) (xs ys : List A) (i : ℕ) : Type 0 where
    pub size : length ys ≡ n
    pub put : (x : A) → set ys i x ≡ insert_at i x xs

  pub lifts : {n : ℕ} (d : A) (xs : List A) (i : ℕ) → length xs ≡ n → ((j : ℕ) → i ≤ j → get_or xs j d ≡ d) → Lifts n xs xs i
  lifts d xs i l f = record { size = l; put = λ x. put_last xs i x d (λ j a b. f j a) }

  pub lifts_on : {n : ℕ} {xs ys : List A} {i j : ℕ} (e : A) → Lifts n xs ys i → i ≡ suc j → Lifts n xs (set ys i (get_or ys j e)) j
  lifts_on {n} {xs} {ys} {i} {j} e m h = record {
    size = length-set ys i (get_or ys j e) ∙ m.size;
    put = λ x.
        ap (λ z. set z j x) (m.put (get_or ys j e))
        ∙ ap (λ z. set (insert_at i z xs) j x) (sym (get_or-set_other ys i j e e (λ q. omega arith)) ∙ ap (λ z. get_or z j e) (m.put e) ∙ below xs i j e e (omega arith))
        ∙ ap (λ z. set (insert_at z (get_or xs j e) xs) j x) h
        ∙ one_lower xs j x e;
  }
