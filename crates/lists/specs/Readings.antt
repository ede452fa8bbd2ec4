-- What the lists are in other words: a page is a part of the table, a list keeps the order of the ids.
use Rattle.std.specs.Prelude.{◌≡◌, Bool, cond, ℕ, suc, ◌-◌, ◌<◌, take, drop, leb, ltb}
use Rattle.std.proofs.Common.{sym, ap, ◌∙◌, arith, leb-true, leb-false, ltb-true, ltb-false}
use Rattle.std.proofs.Math.Bool.{true, false}
use mathlib.Core.List.{List, [], ◌∷◌}
use Rattle.std.proofs.Math.Seq.{take-nil, drop-nil}
use Rattle.table.specs.Tables.{Table, keys}
use Rattle.table.specs.Deciding.{Is, is_true, is_false, decide}
use Rattle.table.specs.Rising.{Above, Rises}
use Rattle.table.specs.RisingLaws.{above_rises}
use Rattle.offer.specs.declared.Offer.{Offer}
use Rattle.lists.specs.declared.Wanted.TheVariants.{Page}
use Rattle.lists.specs.Taking.{pick_from}
use Rattle.lists.specs.Wanted.{paged, wants}
use Rattle.lists.specs.Listing.{listing}

page_from : {A : Type 0} (o l j : ℕ) (t : List A) → pick_from (λ k e. paged o l k) j t ≡ take (l - (j - o)) (drop (o - j) t)
unfolding pick_from paged
page_from o l j [] = sym (ap (take (l - (j - o))) (drop-nil (o - j)) ∙ take-nil (l - (j - o)))
page_from {A} o l j (e ∷ t) = go (decide (leb o j)) (decide (ltb (j - o) l)) (page_from o l (suc j) t)
  where
    go : Is (leb o j) → Is (ltb (j - o) l) → pick_from (λ k e. paged o l k) (suc j) t ≡ take (l - (suc j - o)) (drop (o - suc j) t)
        → cond (paged o l j) (e ∷ pick_from (λ k e. paged o l k) (suc j) t) (pick_from (λ k e. paged o l k) (suc j) t) ≡ take (l - (j - o)) (drop (o - j) (e ∷ t))
    go (is_false a) b r =
        let h = leb-false o j a in
        let x : o - j ≡ suc (o - suc j) = omega arith in
        let y : l - (suc j - o) ≡ l - (j - o) = omega arith in
        rw (a, x) (r ∙ ap (λ (n : ℕ). take n (drop (o - suc j) t)) y)
    go (is_true a) (is_true b) r =
        let h = leb-true o j a in
        let g = ltb-true (j - o) l b in
        let x : o - j ≡ 0 = omega arith in
        let u : o - suc j ≡ 0 = omega arith in
        let y : l - (j - o) ≡ suc (l - (suc j - o)) = omega arith in
        rw (a, b, x, y) (ap (λ (z : List A). e ∷ z) (r ∙ ap (λ (n : ℕ). take (l - (suc j - o)) (drop n t)) u))
    go (is_true a) (is_false b) r =
        let h = leb-true o j a in
        let g = ltb-false (j - o) l b in
        let y : l - (j - o) ≡ 0 = omega arith in
        let v : l - (suc j - o) ≡ 0 = omega arith in
        rw (a, b, y) (r ∙ ap (λ (n : ℕ). take n (drop (o - suc j) t)) v)

-- a page: the rows from the offset on, at most as many as the limit
pub page_is : (o l : ℕ) (t : Table Offer) → listing (Page o l) t ≡ take l (drop o t)
unfolding wants
page_is o l t =
    let x : o - 0 ≡ o = omega arith in
    let y : l - (0 - o) ≡ l = omega arith in
    page_from o l 0 t ∙ ap (λ (n : ℕ). take n (drop (o - 0) t)) y ∙ ap (λ (n : ℕ). take l (drop n t)) x

-- ids ascend
module _ {A : Type 0} (q : ℕ → ℕ × A → Bool) where
  lower : (p i : ℕ) (xs : List ℕ) → p < i → Above i xs → Above p xs
  lower p i [] h a = tt
  lower p i (x ∷ xs) h a = (omega (arith, a.0), a.1)

  above_pick : (p k : ℕ) (t : Table A) → Above p (keys t) → Above p (keys (pick_from q k t))
  unfolding pick_from keys
  above_pick p k [] a = tt
  above_pick p k (e ∷ t) a = go (q k e) (above_pick e.0 (suc k) t a.1)
    where
      go : (b : Bool) → Above e.0 (keys (pick_from q (suc k) t)) → Above p (keys (cond b (e ∷ pick_from q (suc k) t) (pick_from q (suc k) t)))
      go true r = (a.0, r)
      go false r = lower p e.0 (keys (pick_from q (suc k) t)) a.0 r

  pub rises_pick : (k : ℕ) (t : Table A) → Rises (keys t) → Rises (keys (pick_from q k t))
  unfolding pick_from keys
  rises_pick k [] a = tt
  rises_pick k (e ∷ t) a = go (q k e) (above_pick e.0 (suc k) t a)
    where
      go : (b : Bool) → Above e.0 (keys (pick_from q (suc k) t)) → Rises (keys (cond b (e ∷ pick_from q (suc k) t) (pick_from q (suc k) t)))
      go true r = r
      go false r = above_rises e.0 (keys (pick_from q (suc k) t)) r
