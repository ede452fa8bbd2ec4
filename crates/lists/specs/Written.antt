-- The numbers of some entries, one after another, and a walk that writes those that a test takes. Over any entry.
use Rattle.std.specs.Prelude.{◌≡◌, refl, Bool, true, false, ℕ, ◌+◌, ◌*◌, ◌≤◌, ◌<◌, take, get_or}
use Rattle.std.proofs.Math.Path.{sym, ap}
use Rattle.std.proofs.Common.{◌∙◌, mul-le-mul_left, mul-add, mul-one, length-append, take_all}
use mathlib.Core.List.{List, [], ◌∷◌, ◌++◌, append_assoc, append-nil}
use native.Mathlib.Omega.{arith}
use Rattle.std.proofs.Math.ListN.{length}
use Rattle.refusal.specs.PlacedLaws.{length-placed, placed_twice, placed_none}
use Rattle.refusal.specs.Placed.{placed}
use Rattle.lists.specs.Pick.{pick_fewer, pick_on, pick_off, Walked, walk_start, walk_on, walk_off, walk_room}
use Rattle.lists.specs.Taking.{pick_from, spread}

pub spread_append : {A : Type 0} (f : A → List ℕ) (s t : List A) → spread f (s ++ t) ≡ spread f s ++ spread f t
unfolding spread
spread_append f [] t = refl
spread_append f (e ∷ s) t = ap (λ (z : List ℕ). f e ++ z) (spread_append f s t) ∙ sym (append_assoc (f e) (spread f s) (spread f t))

pub length_spread : {A : Type 0} (f : A → List ℕ) (k : ℕ) → ((a : A) → length (f a) ≡ k) → (t : List A) → length (spread f t) ≡ k * length t
unfolding spread
length_spread f k g [] = omega arith
length_spread f k g (e ∷ t) = length-append (f e) (spread f t) ∙ omega (arith, g e, length_spread f k g t)

-- the invariant of a walk that writes what it takes from the start of l₀ on
pub record Wrote {A : Type 0} (q : ℕ → A → Bool) (f : A → List ℕ) (t : List A) (l₀ : List ℕ) (i n : ℕ) (l : List ℕ) : Type 0 where
  pub walked : Walked q t i n
  pub numbers : l ≡ placed 0 (spread f (pick_from q 0 (take i t))) l₀

pub write-start : {A : Type 0} (q : ℕ → A → Bool) (f : A → List ℕ) (t : List A) (l : List ℕ) → Wrote q f t l 0 0 l
unfolding pick_from spread
write-start q f t l = record { walked = walk_start q t; numbers = placed_none 0 l }

module _ {A : Type 0} {q : ℕ → A → Bool} {f : A → List ℕ} {t : List A} {l₀ : List ℕ} {i n : ℕ} {l : List ℕ} (w : Wrote q f t l₀ i n l)
    (k : ℕ) (g : (a : A) → length (f a) ≡ k) (room : k * length (pick_from q 0 t) ≤ length l₀) where
  written : length (spread f (pick_from q 0 (take i t))) ≡ k * n
  written = length_spread f k g (pick_from q 0 (take i t)) ∙ ap (λ (m : ℕ). k * m) (sym w.walked.counted)

  pub write_length : length l ≡ length l₀
  write_length =
      let h : k * n ≤ k * length (pick_from q 0 t) = rw w.walked.counted (mul-le-mul_left k (pick_fewer q t i)) in
      ap length w.numbers ∙ length-placed 0 (spread f (pick_from q 0 (take i t))) l₀ (omega (arith, written))

  pub write_done : length t ≤ i → l ≡ placed 0 (spread f (pick_from q 0 t)) l₀
  write_done h = rw (take_all i t h) at w.numbers

  module _ (d : A) (h : i < length t) where
    pub write_off : q i (get_or t i d) ≡ false → Wrote q f t l₀ (i + 1) n l
    write_off e = record { walked = walk_off w.walked d h e; numbers = rw (pick_off q t i d h e) w.numbers }

    module _ (e : q i (get_or t i d) ≡ true) where
      fits : k * n + k ≤ length l₀
      fits =
          let a : k * (n + 1) ≤ k * length (pick_from q 0 t) = mul-le-mul_left k (walk_room w.walked d h e) in
          let b : k * (n + 1) ≡ k * n + k = mul-add k n 1 ∙ ap (λ (m : ℕ). k * n + m) (mul-one k) in
          omega arith

      pub write_room : k * n + k ≤ length l
      write_room = rw write_length fits

      pub write_on : (l' : List ℕ) → l' ≡ placed (k * n) (f (get_or t i d)) l → Wrote q f t l₀ (i + 1) (n + 1) l'
      unfolding spread
      write_on l' p = record {
        walked = walk_on w.walked d h e;
        numbers =
            let s = spread f (pick_from q 0 (take i t)) in
            let a = f (get_or t i d) in
            let m : 0 + (length s + length a) ≤ length l₀ = omega (arith, written, g (get_or t i d), fits) in
            let z : length s ≡ 0 + length s = omega arith in
            p ∙ ap (λ (z : List ℕ). placed (k * n) a z) w.numbers ∙ ap (λ (j : ℕ). placed j a (placed 0 s l₀)) (sym written ∙ z)
            ∙ placed_twice 0 s a l₀ m
            ∙ ap (λ (z : List ℕ). placed 0 z l₀) (ap (λ (z : List ℕ). s ++ z) (sym (append-nil a)) ∙ sym (spread_append f (pick_from q 0 (take i t)) (get_or t i d ∷ [])) ∙ ap (spread f) (sym (pick_on q t i d h e)));
      }
