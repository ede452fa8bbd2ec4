-- A walk and writing: what is read is what writing gives, and what is written is read. Assumes nothing.
use Rattle.std.proofs.Math.Path.{◌≡◌, refl, sym, ap}
use Rattle.std.proofs.Common.{◌∙◌, arith, drop-drop}
use Rattle.std.specs.Prelude.{false, take}
use mathlib.Core.List.{List, [], ◌∷◌, ◌++◌, append-nil, append_assoc}
use Prim.Native.Nat.{ℕ, zero, suc, ◌+◌, ◌≤◌, ◌<◌}
use Rattle.std.proofs.Math.ListN.{length, drop, length-append}
use Rattle.text.specs.Walk.{Item, item, fault, end, Walk, follow, walk_by, all_of}
use Rattle.text.specs.WalkLaws.{Onward, from_here}
use Rattle.text.specs.ReadingLaws.{drop_all}

-- a command stands at a place: its bytes are those that writing it gives
pub record Stands (write : ℕ × List ℕ → List ℕ) (Good : ℕ × List ℕ → Type 0) (s : List ℕ) (p : ℕ) (x : ℕ × List ℕ) (n : ℕ) : Type 0 where
  pub past : n ≡ p + length (write x)
  pub bytes : take (length (write x)) (drop p s) ≡ write x
  pub good : Good x

-- what is read at a place is what writing gives
pub record Reads (write : ℕ × List ℕ → List ℕ) (at : List ℕ → ℕ → Item) (Good : ℕ × List ℕ → Type 0) (Fine : List ℕ → Type 0) : Type 0 where
  pub ahead : (s : List ℕ) (p : ℕ) → Onward (length s) p (at s p)
  pub stands : (s : List ℕ) (p : ℕ) (x : ℕ × List ℕ) (n : ℕ) → Fine s → at s p ≡ item x n → Stands write Good s p x n

-- what is written is read there
pub record Writes (write : ℕ × List ℕ → List ℕ) (at : List ℕ → ℕ → Item) (Good : ℕ × List ℕ → Type 0) : Type 0 where
  pub ahead : (s : List ℕ) (p : ℕ) → Onward (length s) p (at s p)
  pub back : (x : ℕ × List ℕ) (p r : List ℕ) → Good x → at (p ++ (write x ++ r)) (length p) ≡ item x (length p + length (write x))
  pub over : (s : List ℕ) (p : ℕ) → length s ≤ p → at s p ≡ end

abbrev pub AllGood : (ℕ × List ℕ → Type 0) → List (ℕ × List ℕ) → Type 0
AllGood Good [] = Unit
AllGood Good (x ∷ xs) = Good x × AllGood Good xs

pub take_drop : (n : ℕ) (l : List ℕ) → take n l ++ drop n l ≡ l
take_drop zero l = refl
take_drop (suc n) [] = refl
take_drop (suc n) (x ∷ l) = ap (λ (m : List ℕ). x ∷ m) (take_drop n l)

-- what a walk went over is what writing its commands gives
pub record Whole (write : ℕ × List ℕ → List ℕ) (Good : ℕ × List ℕ → Type 0) (l : List ℕ) (xs : List (ℕ × List ℕ)) : Type 0 where
  pub is : l ≡ all_of write xs
  pub good : AllGood Good xs

module _ {write : ℕ × List ℕ → List ℕ} {at : List ℕ → ℕ → Item} {Good : ℕ × List ℕ → Type 0} {Fine : List ℕ → Type 0} (way : Reads write at Good Fine) where
  step : (s : List ℕ) (p : ℕ) (rest : ℕ → Walk) → Fine s → ((n : ℕ) → p < n → (rest n).bad ≡ false → Whole write Good (drop n s) (rest n).items)
      → (d : Item) → at s p ≡ d → Onward (length s) p d → (follow rest p d).bad ≡ false → Whole write Good (drop p s) (follow rest p d).items
  unfolding all_of Onward
  step s p rest k i (item x n) q g f =
      let w = way.stands s p x n k q in
      let r = i n g.0 f in
      let e : drop n s ≡ drop (length (write x)) (drop p s) = ap (λ (j : ℕ). drop j s) w.past ∙ sym (drop-drop (length (write x)) p s) in
      record {
        is = sym (take_drop (length (write x)) (drop p s)) ∙ ap (λ (l : List ℕ). l ++ drop (length (write x)) (drop p s)) w.bytes ∙ ap (λ (l : List ℕ). write x ++ l) (sym e ∙ r.is);
        good = (w.good, r.good);
      }
  step s p rest k i fault q g f = let z : ◌≡◌ {A = ℕ} 0 1 = cc in absurd (omega arith)
  step s p rest k i end q g f = record { is = drop_all p s g; good = tt }

  read_by : (i : ℕ) (s : List ℕ) (p : ℕ) → Fine s → length s ≤ i + p → (walk_by i (at s) p).bad ≡ false → Whole write Good (drop p s) (walk_by i (at s) p).items
  unfolding walk_by all_of
  read_by zero s p k h e = record { is = drop_all p s (omega arith); good = tt }
  read_by (suc i) s p k h e = step s p (walk_by i (at s)) k (λ n l f. read_by i s n k (omega arith) f) (at s p) refl (way.ahead s p) e

  -- READ, THEN WRITTEN
  pub read_written : (s : List ℕ) (p : ℕ) → Fine s → (walk_by (length s) (at s) p).bad ≡ false → Whole write Good (drop p s) (walk_by (length s) (at s) p).items
  read_written s p k e = read_by (length s) s p k (omega arith) e

module _ {write : ℕ × List ℕ → List ℕ} {at : List ℕ → ℕ → Item} {Good : ℕ × List ℕ → Type 0} (way : Writes write at Good) where
  written_by : (s p : List ℕ) (xs : List (ℕ × List ℕ)) → AllGood Good xs → s ≡ p ++ all_of write xs → ((walk_by (length s) (at s) (length p)).bad ≡ false) × ((walk_by (length s) (at s) (length p)).items ≡ xs)
  unfolding all_of
  written_by s p [] g e =
      let l : length s ≡ length p = ap length (e ∙ append-nil p) in
      let z = from_here (length s) (at s) (way.ahead s) (length p) ∙ ap (follow (walk_by (length s) (at s)) (length p)) (way.over s (length p) (omega arith)) in
      (ap (λ (w : Walk). w.bad) z, ap (λ (w : Walk). w.items) z)
  written_by s p (x ∷ xs) g e =
      let n = length p + length (write x) in
      let b : at s (length p) ≡ item x n = ap (λ (t : List ℕ). at t (length p)) e ∙ way.back x p (all_of write xs) g.0 in
      let z = from_here (length s) (at s) (way.ahead s) (length p) ∙ ap (follow (walk_by (length s) (at s)) (length p)) b in
      let i = written_by s (p ++ write x) xs g.1 (e ∙ sym (append_assoc p (write x) (all_of write xs))) in
      let l : length (p ++ write x) ≡ n = length-append p (write x) in (
        ap (λ (w : Walk). w.bad) z ∙ ap (λ (k : ℕ). (walk_by (length s) (at s) k).bad) (sym l) ∙ i.0,
        ap (λ (w : Walk). w.items) z ∙ ap (λ (ys : List (ℕ × List ℕ)). x ∷ ys) (ap (λ (k : ℕ). (walk_by (length s) (at s) k).items) (sym l) ∙ i.1),
      )

  -- WRITTEN, THEN READ
  pub written_read : (p : List ℕ) (xs : List (ℕ × List ℕ)) → AllGood Good xs → ((walk_by (length (p ++ all_of write xs)) (at (p ++ all_of write xs)) (length p)).bad ≡ false) × ((walk_by (length (p ++ all_of write xs)) (at (p ++ all_of write xs)) (length p)).items ≡ xs)
  written_read p xs g = written_by (p ++ all_of write xs) p xs g refl
