-- What the loops that write the lines go by. Assumes nothing.
use Rattle.std.specs.Prelude.{ℕ, ◌+◌, ◌≤◌, ◌<◌, ◌≡◌, refl, Bool, true, false, length, get_or, take, ltb, min}
use Rattle.std.proofs.Common.{arith, add-one, sym, ◌∙◌, ltb-true, ltb-false, take-suc, take_all}
use Rattle.std.proofs.Math.Path.{ap}
use mathlib.Core.List.{List, [], ◌∷◌, ◌++◌, append-nil}
use Rattle.refusal.specs.Choice.{pick}
use Rattle.refusal.specs.ChoiceLaws.{either}
use Rattle.lists.specs.Taking.{pick_from, spread}
use Rattle.lists.specs.Pick.{pick_on, pick_off}
use Rattle.lists.specs.Written.{spread_append}

-- one entry more
module _ {A : Type 0} (f : A → List ℕ) where
  spread_one : (s : List A) (e : A) → spread f (s ++ (e ∷ [])) ≡ spread f s ++ f e
  unfolding spread
  spread_one s e = spread_append f s (e ∷ []) ∙ ap (λ (z : List ℕ). spread f s ++ z) (append-nil (f e))

  pub spread_turn : (l : List A) (i : ℕ) (d : A) → i < length l → spread f (take (i + 1) l) ≡ spread f (take i l) ++ f (get_or l i d)
  spread_turn l i d h = ap (λ (n : ℕ). spread f (take n l)) (add-one i) ∙ ap (spread f) (take-suc l i d h) ∙ spread_one (take i l) (get_or l i d)

  module _ (q : ℕ → A → Bool) (t : List A) (i : ℕ) (d : A) (h : i < length t) where
    pub taken : q i (get_or t i d) ≡ true → spread f (pick_from q 0 (take (i + 1) t)) ≡ spread f (pick_from q 0 (take i t)) ++ f (get_or t i d)
    taken e = ap (spread f) (pick_on q t i d h e) ∙ spread_one (pick_from q 0 (take i t)) (get_or t i d)

    pub left_out : q i (get_or t i d) ≡ false → spread f (pick_from q 0 (take (i + 1) t)) ≡ spread f (pick_from q 0 (take i t))
    left_out e = ap (spread f) (pick_off q t i d h e)

-- as many as there are, or fewer
pub take_most : {A : Type 0} (l : List A) (i n : ℕ) → length l ≤ i → length l ≤ n → take i l ≡ take n l
take_most l i n h k = take_all i l h ∙ sym (take_all n l k)

pub told_few : (n : ℕ) → pick (ltb n 10) n 10 ≤ 10
told_few n = either (λ (k : ℕ). k ≤ 10) (ltb n 10) n 10 (λ e. omega (arith, ltb-true n 10 e)) (λ e. omega arith)

pub take_least : {A : Type 0} (l : List A) (n k : ℕ) → length l ≤ k → take (min n k) l ≡ take n l
take_least {A} l n k h = go (ltb n k) refl
  where
    go : (b : Bool) → ltb n k ≡ b → take (min n k) l ≡ take n l
    go true e = let z : min n k ≡ n = omega (arith, ltb-true n k e) in rw z refl
    go false e = take_most l (min n k) n (omega (arith, h, ltb-false n k e)) (omega (arith, h, ltb-false n k e))
