-- What is read at a row's spot, and what is written back there. Over any row type.
use Rattle.std.specs.Prelude.{ℕ, ◌≤◌, ◌<◌, zero, suc, ◌≡◌, Bool, true, false, cond, List, [], ◌∷◌, length, get_or, set, take}
use Rattle.std.proofs.Common.{arith, sym, ap, ◌∙◌}
use Rattle.std.proofs.Math.Path.{refl}
use Rattle.std.proofs.lemmas.List.{set-get_or}
use Rattle.table.specs.Tables.{Found, absent, here, find, has}
use Rattle.table.specs.Find.{find_in}
use Rattle.table.specs.Seek.{absent_inside}
use Rattle.table.specs.Shelf.{table_of, Shelf, shelve}
use Rattle.table.proofs.ShelfLaws.{at_below, at_found, absent_found, kept, put_kept, absent_kept}
use Rattle.table.specs.Named.{id_of, find_by, put_by}
use Rattle.table.specs.Spots.{spot_of, spot_by, at_spot}
use Rattle.table.specs.Named.{Named}
use Rattle.std.specs.Prelude.{None, Some}
use Rattle.std.specs.Prelude.{Result}
use Rattle.std.specs.Prelude.{Ok, Err}
use Rattle.table.specs.declared.Spot.{Spot}

pub has_spot : {A : Type 0} (b : Bool) (r : A) → has (at_spot b r) ≡ b
unfolding has at_spot
has_spot true r = refl
has_spot false r = refl

module _ {A : Type 0} {d : A} {n : ℕ} {ids : List ℕ} {rows : List A} {c : ℕ} (s : Shelf d n ids rows c) (some : 0 < n) where
  below_at : (i : ℕ) (f : Result ℕ ℕ) → find_in (take c ids) i ≡ f → (spot_of f).at < n
  below_at i (Ok k) q = at_below s i k q
  below_at i (Err k) q = some

  below_by : (k : Named) → (spot_by (take c ids) k).at < n
  below_by None = some
  below_by (Some i) = below_at i (find_in (take c ids) i) refl

  found_at : (i : ℕ) (f : Result ℕ ℕ) → find_in (take c ids) i ≡ f → find (table_of ids rows c) i ≡ at_spot (spot_of f).here (get_or rows (spot_of f).at d)
  unfolding at_spot
  found_at i (Ok k) q = at_found s i k q
  found_at i (Err k) q = absent_found s i k q

  found_by : (k : Named) → find_by (table_of ids rows c) k ≡ at_spot (spot_by (take c ids) k).here (get_or rows (spot_by (take c ids) k).at d)
  unfolding at_spot
  found_by None = refl
  found_by (Some i) = found_at i (find_in (take c ids) i) refl

  module _ {S : Type 0} (mk : List ℕ → List A → ℕ → S) (x : A) where
    put_at : (i : ℕ) (f : Result ℕ ℕ) → find_in (take c ids) i ≡ f
        → mk ids (set rows (spot_of f).at (cond (spot_of f).here x (get_or rows (spot_of f).at d))) c ≡ shelve mk d n (put_by (table_of ids rows c) (Some i) x)
    put_at i (Ok k) q = put_kept mk s i k x q
    put_at i (Err k) q = ap (λ z. mk ids z c) (set-get_or rows 0 d) ∙ absent_kept mk s i k x q

    put_by_lem : (k : Named) → mk ids (set rows (spot_by (take c ids) k).at (cond (spot_by (take c ids) k).here x (get_or rows (spot_by (take c ids) k).at d))) c ≡ shelve mk d n (put_by (table_of ids rows c) k x)
    put_by_lem None = ap (λ z. mk ids z c) (set-get_or rows 0 d) ∙ kept mk s
    put_by_lem (Some i) = put_at i (find_in (take c ids) i) refl

  -- of the spot p that the code found for the key k
  module _ (k : Named) {p : Spot} (e : p ≡ spot_by (take c ids) k) where
    pub spot_below : p.at < n
    spot_below = rw e (below_by k)

    pub spot_found : find_by (table_of ids rows c) k ≡ at_spot p.here (get_or rows p.at d)
    spot_found = rw e (found_by k)

    pub spot_put : {S : Type 0} (mk : List ℕ → List A → ℕ → S) (x : A) → mk ids (set rows p.at (cond p.here x (get_or rows p.at d))) c ≡ shelve mk d n (put_by (table_of ids rows c) k x)
    spot_put mk x = rw e (put_by_lem mk x k)

-- ── Where a row is let in ─────────────────────────────────────────
slot_at : (f : Result ℕ ℕ) → (spot_of f).here ≡ false → f ≡ Err (spot_of f).slot
slot_at (Ok k) q = let y : ◌≡◌ {A = ℕ} 0 1 = cc in absurd (omega arith)
slot_at (Err k) q = refl

-- an id that is named and not there would be let in at the slot
pub spot_slot : (ids : List ℕ) (k : Named) {p : Spot} → p ≡ spot_by ids k → k ≡ Some (id_of k) → p.here ≡ false → find_in ids (id_of k) ≡ Err p.slot
spot_slot ids k {p} e i q =
    let z : p ≡ spot_of (find_in ids (id_of k)) = e ∙ ap (spot_by ids) i in
    rw z (slot_at (find_in ids (id_of k)) (ap (λ w. w.here) (sym z) ∙ q))

take-le : (n : ℕ) (xs : List ℕ) → length (take n xs) ≤ n
take-le zero xs = omega arith
take-le (suc n) [] = omega arith
take-le (suc n) (x ∷ xs) = omega (arith, take-le n xs)

-- an id that is not there would be let in at the count at most
pub slot_inside : (xs : List ℕ) (n i k : ℕ) → find_in (take n xs) i ≡ Err k → k ≤ n
slot_inside xs n i k e = omega (arith, absent_inside (take n xs) i k e, take-le n xs)

pub off_spot : {A : Type 0} {b : Bool} (r : A) → b ≡ false → at_spot b r ≡ absent
unfolding at_spot
off_spot r e = rw e

pub on_spot : {A : Type 0} {b : Bool} (r : A) → b ≡ true → at_spot b r ≡ here r
unfolding at_spot
on_spot r e = rw e

-- what is written at a spot
pub written_new : {A : Type 0} (b : Bool) (x old : A) → b ≡ true → x ≡ cond b x old
written_new b x old e = rw e

pub written_old : {A : Type 0} (b : Bool) (x old : A) → b ≡ false → old ≡ cond b x old
written_old b x old e = rw e
