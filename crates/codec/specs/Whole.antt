-- A whole snapshot by any codec and any test of soundness: the answer of reading, and the two laws. Assumes nothing.
use Rattle.std.proofs.Math.Path.{◌≡◌, refl, sym, ap}
use Rattle.std.proofs.Common.{◌∙◌, append-nil, zero-add, arith, eq-eqb, eqb-true}
use Rattle.std.specs.Prelude.{Bool, ◌&&◌, List, ◌++◌, ℕ, ◌+◌, ◌<◌, eqb}
use Rattle.std.proofs.Math.Bool.{true, false}
use Rattle.std.proofs.Math.ListN.{length, drop}
use Rattle.std.proofs.Math.Seq.{drop-length}
use Rattle.refusal.specs.Choice.{pick}
use Rattle.refusal.specs.ChoiceLaws.{pick_on}
use Rattle.refusal.specs.Refusal.{number, journal_malformed, book_unsound}
use Rattle.wire.specs.NumberLaws.{Bytes}
use Rattle.wire.specs.FieldLaws.{and_left, and_right}
use Rattle.codec.specs.Codec.{Got, got, no, Codec, Stands}

pub data Reading (A : Type 0) : Type 0 where
  loaded : A → Reading A
  refused : ℕ → ℕ → Reading A

-- 13 at the bytes past the end; 15 for what is unsound; else the value
module _ {A : Type 0} (sound : A → Bool) (len : ℕ) where
  unfoldable pub closing : Got A → Reading A
  closing (got m n k) = pick (eqb n len) (pick (k && sound m) (loaded m) (refused (number book_unsound) 0)) (refused (number journal_malformed) n)
  closing (no r p) = refused r p

module _ {A : Type 0} (c : Codec A) (sound : A → Bool) where
  unfoldable pub reading_of : List ℕ → Reading A
  reading_of s = closing sound (length s) (c.into s 0)

  -- WRITING THEN READING
  pub read_back : (m : A) → c.Fits m → sound m ≡ true → reading_of (c.out m) ≡ loaded m
  unfolding reading_of closing Stands
  read_back m f t =
      let w = c.out m in
      let h : w ≡ w ++ drop (0 + length w) w = rw (zero-add (length w), drop-length w, append-nil) refl in
      ap (closing sound (length w)) (c.back w 0 m f h)
      ∙ pick_on _ _ (eq-eqb (0 + length w) (length w) (zero-add (length w)))
      ∙ pick_on _ _ t

  -- READING THEN WRITING
  pub record Canonical (s : List ℕ) (m : A) : Type 0 where
    pub bytes : s ≡ c.out m
    pub fits : c.Fits m
    pub fair : sound m ≡ true

  pub canonical : (s : List ℕ) (m : A) → Bytes s → reading_of s ≡ loaded m → Canonical s m
  unfolding reading_of closing pick Stands
  canonical s m k e = go (c.into s 0) refl e
    where
      whole : (n : ℕ) → c.into s 0 ≡ got m n true → n ≡ length s → sound m ≡ true → Canonical s m
      whole n i l t =
          let r = c.same s 0 m n k i in
          let j : length s ≡ 0 + length (c.out m) = sym l ∙ r.0.past in
          let d : s ≡ c.out m ++ drop (length s) s = rw j r.0.stands in
          record { bytes = d ∙ rw (drop-length s, append-nil); fits = r.1; fair = t }

      ended : (x : A) (n : ℕ) (v : Bool) → c.into s 0 ≡ got x n v → (t : Bool) → eqb n (length s) ≡ t → (u : Bool) → v && sound x ≡ u → pick t (pick u (loaded x) (refused (number book_unsound) 0)) (refused (number journal_malformed) n) ≡ loaded m → Canonical s m
      ended x n v i true l true u e =
          let q : x ≡ m = cc (e) in
          let vt : v ≡ true = and_left v (sound x) u in
          whole n (rw (← q) (i ∙ ap (got x n) vt)) (eqb-true n (length s) l) (rw (← q) (and_right v (sound x) u))
      ended x n v i true l false u e = let z : ◌≡◌ {A = ℕ} 0 1 = cc (e) in absurd (omega arith)
      ended x n v i false l u w e = let z : ◌≡◌ {A = ℕ} 0 1 = cc (e) in absurd (omega arith)

      go : (g : Got A) → c.into s 0 ≡ g → closing sound (length s) g ≡ loaded m → Canonical s m
      go (got x n v) i e = ended x n v i (eqb n (length s)) refl (v && sound x) refl e
      go (no r p) i e = let z : ◌≡◌ {A = ℕ} 0 1 = cc (e) in absurd (omega arith)

  -- A REFUSAL has a number
  pub reading_stops : (s : List ℕ) (n at : ℕ) → reading_of s ≡ refused n at → 0 < n
  unfolding reading_of closing pick
  reading_stops s n at e = go (c.into s 0) refl e
    where
      known : (x : A) (p : ℕ) (t u : Bool) → pick t (pick u (loaded x) (refused (number book_unsound) 0)) (refused (number journal_malformed) p) ≡ refused n at → 0 < n
      known x p true true e = let z : ◌≡◌ {A = ℕ} 0 1 = cc (e) in absurd (omega arith)
      known x p true false e = let i : number book_unsound ≡ n = cc (e) in omega (arith, i)
      known x p false u e = let i : number journal_malformed ≡ n = cc (e) in omega (arith, i)

      go : (g : Got A) → c.into s 0 ≡ g → closing sound (length s) g ≡ refused n at → 0 < n
      go (got x p v) i e = known x p (eqb p (length s)) (v && sound x) e
      go (no r p) i e = let j : r ≡ n = cc (e) in rw j at (c.stops s 0 r p i)
