-- The invariants of the two passes over the pieces: what is still to come completes what a pass leaves. Assumes nothing.
use Rattle.std.specs.Prelude.{◌≡◌, refl, Bool, true, false, take, drop, set}
use Rattle.std.proofs.Math.Path.{sym, ap}
use Rattle.std.proofs.Common.{◌∙◌, add-zero, add-one}
use mathlib.Core.List.{List, [], ◌∷◌, ◌++◌}
use Prim.Native.Nat.{ℕ, ◌+◌, ◌-◌, ◌≤◌, ◌<◌}
use native.Mathlib.Omega.{arith}
use Rattle.std.proofs.lemmas.List.{set_split}
use Rattle.std.proofs.Math.ListN.{length, length-append}
use Rattle.refusal.specs.Choice.{pick}
use Rattle.refusal.specs.ChoiceLaws.{pick_on, pick_off}
use Rattle.refusal.specs.Placed.{placed}
use Rattle.refusal.specs.PlacedLaws.{length-placed, placed_twice, placed_none}
use Rattle.rescue.specs.Rescue.{outer, fits, stands, pieces_from, bytes_in, kept_in, dropped_in, answer}
use Rattle.rescue.specs.Swept.{Swept}
use Rattle.rescue.proofs.Walk.{Steps, fits_room, piece_long, from_piece, from_stop, all_within, parted}

answers : {a b c x y z : ℕ} → a ≡ x → b ≡ y → c ≡ z → answer 0 a b c ≡ answer 0 x y z
answers {a} {b} {c} {x} {y} {z} f g h = ap (λ (n : ℕ). answer 0 n b c) f ∙ ap (λ (n : ℕ). answer 0 x n c) g ∙ ap (λ (n : ℕ). answer 0 x y n) h

-- a list that is laid piece by piece: w is still to come at p over l, and then it is w₀ from p₀ over l₀
pub record Laying (p : ℕ) (w l : List ℕ) (p₀ : ℕ) (w₀ l₀ : List ℕ) : Type 0 where
  pub place : p + length w ≡ p₀ + length w₀
  pub same : length l ≡ length l₀
  pub room : p₀ + length w₀ ≤ length l₀
  pub becomes : placed p w l ≡ placed p₀ w₀ l₀

pub laying : (p : ℕ) (w l : List ℕ) → p + length w ≤ length l → Laying p w l p w l
laying p w l h = record { place = refl; same = refl; room = h; becomes = refl }

module _ (a b : List ℕ) {p : ℕ} {l : List ℕ} {p₀ : ℕ} {w₀ l₀ : List ℕ} (i : Laying p (a ++ b) l p₀ w₀ l₀) where
  pub next : {q : ℕ} {m : List ℕ} → (q ≡ p + length a) × (m ≡ placed p a l) → Laying q b m p₀ w₀ l₀
  next {q} {m} h =
      let n = length-append a b in
      record {
        place = omega (arith, h.0, i.place);
        same = ap length h.1 ∙ length-placed p a l (omega (arith, i.place, i.same, i.room)) ∙ i.same;
        room = i.room;
        becomes = ap (λ (x : List ℕ). placed q b x) h.1 ∙ ap (λ (x : ℕ). placed x b (placed p a l)) h.0 ∙ placed_twice p a b l (omega (arith, i.place, i.same, i.room)) ∙ i.becomes;
      }

pub laid_all : {p : ℕ} {l : List ℕ} {p₀ : ℕ} {w₀ l₀ : List ℕ} → Laying p [] l p₀ w₀ l₀ → (p ≡ p₀ + length w₀) × (l ≡ placed p₀ w₀ l₀)
laid_all {p} {l} i = (sym (add-zero p) ∙ i.place, placed_none p l ∙ i.becomes)

short_of : (g : Bool) (w : List ℕ) → length (pick g w []) ≤ length w
unfolding pick
short_of true w = omega arith
short_of false w = omega arith

-- a record that is kept goes not into the report, and one that is dropped not into the output
module _ (l : List ℕ) (p : ℕ) {g : Bool} (w : List ℕ) where
  pub no_more : g ≡ true → (p ≡ p + length (pick g [] w)) × (l ≡ placed p (pick g [] w) l)
  no_more e = rw (pick_on {A = List ℕ} [] w e) (sym (add-zero p), placed_none p l)

  pub one_more : {m : List ℕ} {q : ℕ} → g ≡ false → q ≡ p + length w → m ≡ placed p w l → (q ≡ p + length (pick g [] w)) × (m ≡ placed p (pick g [] w) l)
  one_more e h k = rw (pick_off {A = List ℕ} [] w e) (h, k)

  pub no_copy : g ≡ false → (p ≡ p + length (pick g w [])) × (l ≡ placed p (pick g w []) l)
  no_copy e = rw (pick_off {A = List ℕ} w [] e) (sym (add-zero p), placed_none p l)

  pub a_copy : {m : List ℕ} {q : ℕ} → g ≡ true → q ≡ p + length w → m ≡ placed p w l → (q ≡ p + length (pick g w [])) × (m ≡ placed p (pick g w []) l)
  a_copy e h k = rw (pick_on {A = List ℕ} w [] e) (h, k)

pub one_set : (l : List ℕ) (k x : ℕ) → k < length l → set l k x ≡ placed k (x ∷ []) l
unfolding placed
one_set l k x h = rw (add-one k) (set_split l k x h)

pub record Sweeping (e : ℕ) (s : List ℕ) (first : ℕ) (out report : List ℕ) (at p k : ℕ) (wrote noted : List ℕ) : Type 0 where
  pub within : at ≤ length s
  pub behind : p ≤ at
  pub passed : at + length (bytes_in (pieces_from e s at)) ≡ first + length (bytes_in (pieces_from e s first))
  pub clean : Laying p (kept_in (pieces_from e s at)) wrote first (kept_in (pieces_from e s first)) out
  pub offsets : Laying k (dropped_in (pieces_from e s at)) noted 0 (dropped_in (pieces_from e s first)) report

pub sweeping : (e : ℕ) (s : List ℕ) (first : ℕ) (out report : List ℕ) → first ≤ length s → length s ≤ length out → length (dropped_in (pieces_from e s first)) ≤ length report → Sweeping e s first out report first first 0 out report
sweeping e s first out report h k r =
    let ps = pieces_from e s first in
    record {
      within = h;
      behind = omega arith;
      passed = refl;
      clean = laying first (kept_in ps) out (omega (arith, parted ps, all_within e s first h));
      offsets = laying 0 (dropped_in ps) report (omega arith);
    }

module _ {e : ℕ} {s : List ℕ} {first : ℕ} {out report : List ℕ} {at p k : ℕ} {wrote noted : List ℕ} (i : Sweeping e s first out report at p k wrote noted) where
  -- a piece that fits
  module _ (q : fits (drop at s) ≡ true) where
    abbrev o : ℕ
    o = outer (drop at s)

    abbrev kept : List ℕ
    kept = pick (stands e s at) (take o (drop at s)) []

    abbrev off : List ℕ
    off = pick (stands e s at) [] (at ∷ [])

    to_keep : Laying p (kept ++ kept_in (pieces_from e s (at + o))) wrote first (kept_in (pieces_from e s first)) out
    unfolding kept_in
    to_keep = rw (from_piece e s at q) at i.clean

    to_note : Laying k (off ++ dropped_in (pieces_from e s (at + o))) noted 0 (dropped_in (pieces_from e s first)) report
    unfolding dropped_in
    to_note = rw (from_piece e s at q) at i.offsets

    pub room_note : stands e s at ≡ false → k < length noted
    room_note g =
        let n : length off ≡ 1 = ap length (pick_off [] (at ∷ []) g) in
        let z = to_note in
        omega (arith, z.place, z.same, z.room, length-append off (dropped_in (pieces_from e s (at + o))))

    sweep_next : {x y : ℕ} {l m : List ℕ} → (x ≡ p + length kept) × (l ≡ placed p kept wrote) → (y ≡ k + length off) × (m ≡ placed k off noted) → x ≤ at + o
        → Sweeping e s first out report (at + o) x y l m
    unfolding bytes_in
    sweep_next h g b = record {
      within = (fits_room s at q).0;
      behind = b;
      passed = onward;
      clean = next kept (kept_in (pieces_from e s (at + o))) to_keep h;
      offsets = next off (dropped_in (pieces_from e s (at + o))) to_note g;
    }
      where
        onward : at + o + length (bytes_in (pieces_from e s (at + o))) ≡ first + length (bytes_in (pieces_from e s first))
        onward =
            let w = bytes_in (pieces_from e s (at + o)) in
            let f : at + length (take o (drop at s) ++ w) ≡ first + length (bytes_in (pieces_from e s first)) = rw (from_piece e s at q) at i.passed in
            omega (arith, f, length-append (take o (drop at s)) w, piece_long s at q)

  -- by what the code found of it: its size n, and whether it is kept
  module _ {n : ℕ} {g : Bool} (f : Steps (drop at s) n) (e₁ : g ≡ stands e s at) where
    pub room_out : length s ≤ length out → (at + n ≤ length s) × (p + n ≤ length wrote)
    room_out h = (omega (arith, f.size, fits_room s at f.fit), omega (arith, f.size, fits_room s at f.fit, i.behind, i.clean.same))

    pub room_report : g ≡ false → k < length noted
    room_report h = room_note f.fit (sym e₁ ∙ h)

    pub sweep_on : {x y : ℕ} {l m : List ℕ} → (x ≡ p + length (pick g (take n (drop at s)) [])) × (l ≡ placed p (pick g (take n (drop at s)) []) wrote)
        → (y ≡ k + length (pick g [] (at ∷ []))) × (m ≡ placed k (pick g [] (at ∷ [])) noted) → Sweeping e s first out report (at + n) x y l m
    sweep_on {x} {y} {l} {m} h j =
        let o₁ = outer (drop at s) in
        let h₂ : (x ≡ p + length (pick (stands e s at) (take o₁ (drop at s)) [])) × (l ≡ placed p (pick (stands e s at) (take o₁ (drop at s)) []) wrote) = rw (e₁, f.size) at h in
        let j₂ : (y ≡ k + length (pick (stands e s at) [] (at ∷ []))) × (m ≡ placed k (pick (stands e s at) [] (at ∷ [])) noted) = rw e₁ at j in
        rw f.size
        (sweep_next f.fit h₂ j₂ (omega (arith, h₂.0, i.behind, piece_long s at f.fit, short_of (stands e s at) (take o₁ (drop at s)))))

  -- where it stops
  pub sweep_done : fits (drop at s) ≡ false → Swept e s first out report (answer 0 p k (length s - at)) wrote noted
  unfolding kept_in dropped_in bytes_in
  sweep_done q = go (laid_all c) (laid_all d) past
    where
      c : Laying p [] wrote first (kept_in (pieces_from e s first)) out
      c = rw (from_stop e s at q) at i.clean

      d : Laying k [] noted 0 (dropped_in (pieces_from e s first)) report
      d = rw (from_stop e s at q) at i.offsets

      past : at + 0 ≡ first + length (bytes_in (pieces_from e s first))
      past = rw (from_stop e s at q) at i.passed

      go : (p ≡ first + length (kept_in (pieces_from e s first))) × (wrote ≡ placed first (kept_in (pieces_from e s first)) out)
          → (k ≡ 0 + length (dropped_in (pieces_from e s first))) × (noted ≡ placed 0 (dropped_in (pieces_from e s first)) report)
          → at + 0 ≡ first + length (bytes_in (pieces_from e s first)) → Swept e s first out report (answer 0 p k (length s - at)) wrote noted
      go a b f =
          let z : length s - at ≡ length s - (first + length (bytes_in (pieces_from e s first))) = omega arith in
          record {
            says = answers a.0 (omega (arith, b.0)) z;
            clean = a.1;
            offsets = b.1;
          }

-- the pass that only counts what it drops
pub record Counting (e : ℕ) (s : List ℕ) (first at n : ℕ) : Type 0 where
  pub within : at ≤ length s
  pub few : n ≤ at
  pub sum : n + length (dropped_in (pieces_from e s at)) ≡ length (dropped_in (pieces_from e s first))

pub counting : (e : ℕ) (s : List ℕ) (first : ℕ) → first ≤ length s → Counting e s first first 0
counting e s first h = record { within = h; few = omega arith; sum = omega arith }

one_off : (g : Bool) (at : ℕ) → length (pick g [] (at ∷ [])) ≡ pick g 0 1
unfolding pick
one_off true at = refl
one_off false at = refl

module _ {e : ℕ} {s : List ℕ} {first at n : ℕ} (i : Counting e s first at n) where
  pub count_on : {m x : ℕ} {g : Bool} → Steps (drop at s) m → g ≡ stands e s at → (x ≡ pick g 0 1) × (x ≤ 1) → Counting e s first (at + m) (n + x)
  unfolding dropped_in
  count_on {m} {x} {g} f j h =
      let o = outer (drop at s) in
      let r = fits_room s at f.fit in
      let rest = dropped_in (pieces_from e s (at + o)) in
      let w : List ℕ = pick (stands e s at) [] (at ∷ []) in
      let q : n + length (w ++ rest) ≡ length (dropped_in (pieces_from e s first)) = rw (from_piece e s at f.fit) at i.sum in
      let z : x ≡ length w = h.0 ∙ ap (λ (b : Bool). pick b 0 1) j ∙ sym (one_off (stands e s at) at) in
      rw f.size record { within = r.0; few = omega (arith, h.1, i.few); sum = omega (arith, length-append w rest) }

  pub count_done : fits (drop at s) ≡ false → n ≡ length (dropped_in (pieces_from e s first))
  unfolding dropped_in
  count_done q = let z : n + 0 ≡ length (dropped_in (pieces_from e s first)) = rw (from_stop e s at q) at i.sum in omega arith
