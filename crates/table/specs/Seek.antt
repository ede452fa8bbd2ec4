-- What an answer of `find_in` says of a list of ids that rise.
use Rattle.std.specs.Prelude.{ℕ, suc, ◌≤◌, ◌<◌, Bool, cond, ◌&&◌, List, ◌∷◌}
use Rattle.std.proofs.Common.{arith, ap, ◌∙◌}
use Rattle.std.proofs.Math.Path.{◌≡◌, refl, sym}
use Rattle.std.proofs.Math.Bool.{true, false}
use Rattle.std.proofs.Math.ListN.{length, get_or}
use Rattle.std.proofs.Math.Dec.{ltb, eqb}
use borrow.Author.Tests.{lt-ltb, le-ltb, eq-eqb, ne_eqb, ltb-true, ltb-false, eqb-true, eqb-false}
use Rattle.table.specs.Rising.{Rises}
use Rattle.std.specs.Prelude.{Result}
use Rattle.std.specs.Prelude.{Ok, Err}
use Rattle.table.specs.Find.{place_in, find_in}
use Rattle.table.specs.Halves.{Split, split_at, place_most}

-- `id` stands at k, and what is before it is below
pub record Stands (xs : List ℕ) (id k : ℕ) : Type 0 where
  pub within : k < length xs
  pub same : get_or xs k 0 ≡ id
  pub below : (m : ℕ) → m < k → get_or xs m 0 < id

-- k is the place for `id`: what is before it is below, and what stands there is above
pub record Place (xs : List ℕ) (id k : ℕ) : Type 0 where
  pub within : k ≤ length xs
  pub below : (m : ℕ) → m < k → get_or xs m 0 < id
  pub above : k < length xs → id < get_or xs k 0

pub stands_tail : {x : ℕ} {xs : List ℕ} {id k : ℕ} → Stands (x ∷ xs) id (suc k) → Stands xs id k
stands_tail s = record { within = omega (arith, s.within); same = s.same; below = λ m l. s.below (suc m) (omega arith) }

pub place-tail : {x : ℕ} {xs : List ℕ} {id k : ℕ} → Place (x ∷ xs) id (suc k) → Place xs id k
place-tail p = record { within = omega (arith, p.within); below = λ m l. p.below (suc m) (omega arith); above = λ l. p.above (omega arith) }

-- ── The answer at the place where the search ends ─────────────────
module _ (xs : List ℕ) (id : ℕ) where
  abbrev answer : ℕ → Result ℕ ℕ
  answer p = cond (ltb p (length xs) && eqb (get_or xs p 0) id) (Ok p) (Err p)

  module _ {k : ℕ} (e : place_in xs id ≡ k) where
    pub found_over : length xs ≤ k → Err k ≡ find_in xs id
    unfolding find_in
    found_over h = sym (ap answer e ∙ simp (le-ltb k (length xs) h))

    pub found_at : k < length xs → get_or xs k 0 ≡ id → Ok k ≡ find_in xs id
    unfolding find_in
    found_at h q = sym (ap answer e ∙ simp (lt-ltb k (length xs) h, eq-eqb (get_or xs k 0) id q))

    pub found_not : k < length xs → (get_or xs k 0 ≡ id → ⊥) → Err k ≡ find_in xs id
    unfolding find_in
    found_not h q = sym (ap answer e ∙ simp (lt-ltb k (length xs) h, ne_eqb (get_or xs k 0) id q))

module _ (xs : List ℕ) (id k : ℕ) where
  abbrev end : ℕ
  end = place_in xs id

  -- what an answer says of the place where the search ended
  ended_at : (s t : Bool) → cond (s && t) (Ok end) (Err end) ≡ Ok k → (end ≡ k) × ((s ≡ true) × (t ≡ true))
  ended_at true true e = let z : end ≡ k = cc in (z, (refl, refl))
  ended_at true false e = let z : ◌≡◌ {A = ℕ} 0 1 = cc in absurd (omega arith)
  ended_at false t e = let z : ◌≡◌ {A = ℕ} 0 1 = cc in absurd (omega arith)

  ended_absent : (s t : Bool) → cond (s && t) (Ok end) (Err end) ≡ Err k → (end ≡ k) × (s && t ≡ false)
  ended_absent true true e = let z : ◌≡◌ {A = ℕ} 0 1 = cc in absurd (omega arith)
  ended_absent true false e = let z : end ≡ k = cc in (z, refl)
  ended_absent false t e = let z : end ≡ k = cc in (z, refl)

  pub found_stands : Rises xs → find_in xs id ≡ Ok k → Stands xs id k
  unfolding find_in
  found_stands r e =
      let p = ended_at (ltb end (length xs)) (eqb (get_or xs end 0) id) e in
      let s : Stands xs id end = record { within = ltb-true end (length xs) p.1.0; same = eqb-true (get_or xs end 0) id p.1.1; below = (split_at xs id r).below } in
      rw p.0 at s

  pub absent_inside : find_in xs id ≡ Err k → k ≤ length xs
  unfolding find_in
  absent_inside e = rw (ended_absent (ltb end (length xs)) (eqb (get_or xs end 0) id) e).0 at (place_most xs id)

  pub absent_place : Rises xs → find_in xs id ≡ Err k → Place xs id k
  unfolding find_in
  absent_place r e =
      let p = ended_absent (ltb end (length xs)) (eqb (get_or xs end 0) id) e in
      let s : Place xs id end = record { within = place_most xs id; below = (split_at xs id r).below; above = λ l. go (eqb (get_or xs end 0) id) refl l p.1 } in
      rw p.0 at s
    where
      go : (t : Bool) → eqb (get_or xs end 0) id ≡ t → end < length xs → ltb end (length xs) && eqb (get_or xs end 0) id ≡ false → id < get_or xs end 0
      go true q l n = let z : true ≡ false = sym (simp (lt-ltb end (length xs) l, q)) ∙ n in let y : ◌≡◌ {A = ℕ} 0 1 = cc in absurd (omega arith)
      go false q l n = omega (arith, (split_at xs id r).above end (omega arith) l, eqb-false (get_or xs end 0) id q)
