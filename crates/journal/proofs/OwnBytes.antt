-- A field read of its own eleven bytes is the field that stands in the journal
use Rattle.std.specs.Prelude.{◌≡◌, ℕ, zero, suc, ◌+◌, ◌-◌, ◌*◌, ◌≤◌, ◌<◌, List, ◌&&◌, length, get_or, take, drop, eqb, leb}
use Rattle.std.proofs.Math.Path.{refl}
use Rattle.std.proofs.Common.{sym, ap, ◌∙◌, arith, length-drop, length-take-le, drop-drop}
use Rattle.std.proofs.lemmas.List.{get_or-take, drop-take}
use borrow.Author.Tests.{le-leb}
use Rattle.refusal.specs.ChoiceLaws.{pick_on}
use Rattle.wire.specs.Field.{begins, number_in, number_at}

number_take : (n m : ℕ) (l : List ℕ) → m ≤ n → number_in (take n l) m ≡ number_in l m
unfolding number_in
number_take n zero l h = refl
number_take n (suc m) l h = ap (λ z. z * 256 + get_or (take n l) m 0) (number_take n m l (omega (arith, h))) ∙ ap (λ z. number_in l m * 256 + z) (get_or-take n l m 0 (omega (arith, h)))

begins_eleven : (tag : ℕ) (l : List ℕ) → 11 ≤ length l → begins tag 8 (take 11 l) ≡ begins tag 8 l
unfolding begins
begins_eleven tag l h =
    ap (λ z. z && (eqb (get_or (take 11 l) 0 0) tag && eqb (number_in (drop 1 (take 11 l)) 2) 8)) (le-leb 11 (length (take 11 l)) (omega (arith, length-take-le 11 l h)) ∙ sym (le-leb 11 (length l) h))
    ∙ ap (λ z. leb 11 (length l) && (eqb z tag && eqb (number_in (drop 1 (take 11 l)) 2) 8)) (get_or-take 11 l 0 0 (omega arith))
    ∙ ap (λ z. leb 11 (length l) && (eqb (get_or l 0 0) tag && eqb z 8)) (ap (λ z. number_in z 2) (drop-take 1 10 l) ∙ number_take 10 2 (drop 1 l) (omega arith))

number_eight : (m : List ℕ) → 8 ≤ length m → number_at 8 (take 8 m) ≡ number_at 8 m
unfolding number_at
number_eight m h = pick_on _ _ (le-leb 8 (length (take 8 m)) (omega (arith, length-take-le 8 m h))) ∙ number_take 8 8 m (omega arith) ∙ sym (pick_on _ _ (le-leb 8 (length m) h))

module _ (s : List ℕ) (q : ℕ) (room : q + 11 ≤ length s) where
  long : 11 ≤ length (drop q s)
  long = omega (arith, room, length-drop q s)

  eleven : q + 11 - q ≡ 11
  eleven = omega arith

  pub begins_own : (tag : ℕ) → begins tag 8 (take (q + 11 - q) (drop q s)) ≡ begins tag 8 (drop q s)
  begins_own tag = ap (λ (n : ℕ). begins tag 8 (take n (drop q s))) eleven ∙ begins_eleven tag (drop q s) long

  pub number_own : number_at 8 (drop 3 (take (q + 11 - q) (drop q s))) ≡ number_at 8 (drop (q + 3) s)
  number_own =
      ap (λ (n : ℕ). number_at 8 (drop 3 (take n (drop q s)))) eleven ∙ ap (number_at 8) (drop-take 3 8 (drop q s))
      ∙ number_eight (drop 3 (drop q s)) (omega (arith, long, length-drop 3 (drop q s))) ∙ ap (number_at 8) (drop-drop 3 q s)
