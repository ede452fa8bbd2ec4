-- The entries of a list that a test of place and entry takes, and a walk that counts them. Over any entry.
use Rattle.std.specs.Prelude.{◌≡◌, refl, Bool, take, drop, get_or}
use Rattle.std.proofs.Common.{sym, ◌∙◌, add-zero, add-one, length-append, take-append-drop, take_all}
use Rattle.std.proofs.Math.Path.{ap}
use Rattle.std.proofs.Math.Bool.{true, false, cond}
use mathlib.Core.List.{List, [], ◌∷◌, ◌++◌, append-nil}
use Prim.Native.Nat.{ℕ, suc, ◌+◌, ◌≤◌, ◌<◌}
use native.Mathlib.Omega.{arith}
use Rattle.std.proofs.Math.ListN.{length}
use Rattle.std.proofs.Math.Seq.{take-suc, length-take-le}
use Rattle.lists.specs.Taking.{pick_from}

module _ {A : Type 0} (q : ℕ → A → Bool) where
  pick_append : (k : ℕ) (s t : List A) → pick_from q k (s ++ t) ≡ pick_from q k s ++ pick_from q (k + length s) t
  unfolding pick_from
  pick_append k [] t = rw (add-zero k)
  pick_append k (e ∷ s) t =
      let f : k + suc (length s) ≡ suc k + length s = omega arith in
      go (q k e) (pick_append (suc k) s t ∙ ap (λ (n : ℕ). pick_from q (suc k) s ++ pick_from q n t) (sym f))
    where
      go : (b : Bool) → pick_from q (suc k) (s ++ t) ≡ pick_from q (suc k) s ++ pick_from q (k + suc (length s)) t
          → cond b (e ∷ pick_from q (suc k) (s ++ t)) (pick_from q (suc k) (s ++ t)) ≡ cond b (e ∷ pick_from q (suc k) s) (pick_from q (suc k) s) ++ pick_from q (k + suc (length s)) t
      go true r = ap (λ (z : List A). e ∷ z) r
      go false r = r

  pick_after : (s t : List A) → pick_from q 0 (s ++ t) ≡ pick_from q 0 s ++ pick_from q (length s) t
  pick_after s t = let z : 0 + length s ≡ length s = omega arith in pick_append 0 s t ∙ ap (λ (n : ℕ). pick_from q 0 s ++ pick_from q n t) z

  module _ (t : List A) (i : ℕ) (d : A) (h : i < length t) where
    one_more : pick_from q 0 (take (i + 1) t) ≡ pick_from q 0 (take i t) ++ cond (q i (get_or t i d)) (get_or t i d ∷ []) []
    unfolding pick_from
    one_more = rw (add-one, take-suc t i d h, pick_after (take i t) (get_or t i d ∷ []), length-take-le i t (omega arith))

    pub pick_on : q i (get_or t i d) ≡ true → pick_from q 0 (take (i + 1) t) ≡ pick_from q 0 (take i t) ++ (get_or t i d ∷ [])
    pick_on e = one_more ∙ ap (λ (b : Bool). pick_from q 0 (take i t) ++ cond b (get_or t i d ∷ []) []) e

    pub pick_off : q i (get_or t i d) ≡ false → pick_from q 0 (take (i + 1) t) ≡ pick_from q 0 (take i t)
    pick_off e = one_more ∙ ap (λ (b : Bool). pick_from q 0 (take i t) ++ cond b (get_or t i d ∷ []) []) e ∙ append-nil _

  pub pick_fewer : (t : List A) (i : ℕ) → length (pick_from q 0 (take i t)) ≤ length (pick_from q 0 t)
  pick_fewer t i =
      let e : pick_from q 0 t ≡ pick_from q 0 (take i t) ++ pick_from q (length (take i t)) (drop i t) = ap (pick_from q 0) (sym (take-append-drop i t)) ∙ pick_after (take i t) (drop i t) in
      omega (arith, ap length e, length-append (pick_from q 0 (take i t)) (pick_from q (length (take i t)) (drop i t)))

pub pick_short : {A : Type 0} (q : ℕ → A → Bool) (k : ℕ) (t : List A) → length (pick_from q k t) ≤ length t
unfolding pick_from
pick_short q k [] = omega arith
pick_short {A} q k (e ∷ t) = go (q k e) (pick_short q (suc k) t)
  where
    go : (b : Bool) → length (pick_from q (suc k) t) ≤ length t → length (cond b (e ∷ pick_from q (suc k) t) (pick_from q (suc k) t)) ≤ suc (length t)
    go true h = omega arith
    go false h = omega arith

-- the invariant of a walk that has seen i entries and taken n of them
pub record Walked {A : Type 0} (q : ℕ → A → Bool) (t : List A) (i n : ℕ) : Type 0 where
  pub within : i ≤ length t
  pub counted : n ≡ length (pick_from q 0 (take i t))

pub walk_start : {A : Type 0} (q : ℕ → A → Bool) (t : List A) → Walked q t 0 0
unfolding pick_from
walk_start q t = record { within = omega arith; counted = refl }

module _ {A : Type 0} {q : ℕ → A → Bool} {t : List A} {i n : ℕ} (w : Walked q t i n) where
  pub walk_few : n ≤ i
  walk_few = omega (arith, pick_short q 0 (take i t), length-take-le i t w.within)

  pub walk_done : length t ≤ i → n ≡ length (pick_from q 0 t)
  walk_done h = rw (take_all i t h) at w.counted

  module _ (d : A) (h : i < length t) where
    pub walk_on : q i (get_or t i d) ≡ true → Walked q t (i + 1) (n + 1)
    walk_on e = record { within = omega arith; counted = rw (pick_on q t i d h e, length-append, ← w.counted) }

    pub walk_off : q i (get_or t i d) ≡ false → Walked q t (i + 1) n
    walk_off e = record { within = omega arith; counted = rw (pick_off q t i d h e) w.counted }

    -- there is one more to take
    pub walk_room : q i (get_or t i d) ≡ true → n + 1 ≤ length (pick_from q 0 t)
    walk_room e = omega (arith, (walk_on e).counted, pick_fewer q t (i + 1))
