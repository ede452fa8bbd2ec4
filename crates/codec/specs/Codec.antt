-- Codecs over bytes, composed: what is written, what is read, and that the two undo each other. Assumes nothing.
--
-- A codec says both ways of one kind of value, and carries its laws. `column`, `_then_`, `via`, `given`, `rows` and `led`
-- make larger codecs of smaller ones, laws included, so that a format is one expression and needs no proof of its own.
use Rattle.std.proofs.Math.Path.{◌≡◌, refl, sym, ap}
use Rattle.std.proofs.Common.{◌∙◌, add-zero, length-drop, take-append-drop}
use Rattle.std.specs.Prelude.{Bool, ◌&&◌, take}
use Rattle.std.proofs.Math.Bool.{true, false}
use mathlib.Core.List.{List, [], ◌∷◌, ◌++◌, append_assoc}
use Prim.Native.Nat.{ℕ, zero, suc, ◌+◌, ◌-◌, ◌^◌, ◌≤◌, ◌<◌}
use native.Mathlib.Omega.{arith}
use Rattle.std.proofs.Math.ListN.{length, drop, length-append}
use Rattle.std.proofs.Math.Seq.{drop-drop, drop_at}
use Rattle.std.proofs.Math.Dec.{leb}
use borrow.Author.Tests.{le-leb, leb-true}
use Rattle.refusal.specs.Choice.{pick}
use Rattle.refusal.specs.ChoiceLaws.{pick_on}
use Rattle.refusal.specs.Refusal.{number, journal_malformed, book_unsound}
use Rattle.wire.specs.Field.{bytes_of, head_of, field_of, begins, number_at}
use Rattle.wire.specs.FieldLaws.{begins_room}
use Rattle.wire.specs.FieldTrip.{body_past, begins_field, number_past, field_bytes, number_whole, bytes_drop, number_small}
use Rattle.wire.specs.NumberLaws.{Bytes}

-- ── What reading gives ────────────────────────────────────────────
-- a value, the place past it, and whether all its numbers lie in their columns' ranges; or a refusal and its offset
pub data Got (A : Type 0) : Type 0 where
  got : A → ℕ → Bool → Got A
  no : ℕ → ℕ → Got A

unfoldable pub marked : {B : Type 0} → Bool → Got B → Got B
marked k (got y m j) = got y m (k && j)
marked k (no r p) = no r p

-- a value, and what is read after it
unfoldable pub bind : {A B : Type 0} → Got A → (A → ℕ → Got B) → Got B
bind (got x n k) f = marked k (f x n)
bind (no r p) f = no r p

pub mark_true : {B : Type 0} (h : Got B) → marked true h ≡ h
unfolding marked
mark_true (got y m j) = refl
mark_true (no r p) = refl

never_marked : {B : Type 0} (h : Got B) (y : B) (m : ℕ) → marked false h ≡ got y m true → ⊥
unfolding marked
never_marked (got x n j) y m e = let z : ◌≡◌ {A = ℕ} 0 1 = cc in omega arith
never_marked (no r p) y m e = let z : ◌≡◌ {A = ℕ} 0 1 = cc in omega arith

-- where both are read well, so is each
pub record Came {A B : Type 0} (g : Got A) (f : A → ℕ → Got B) (y : B) (m : ℕ) : Type 0 where
  pub value : A
  pub place : ℕ
  pub first : g ≡ got value place true
  pub rest : f value place ≡ got y m true

pub came : {A B : Type 0} (g : Got A) (f : A → ℕ → Got B) (y : B) (m : ℕ) → bind g f ≡ got y m true → Came g f y m
unfolding bind
came (got x n true) f y m e = record { value = x; place = n; first = refl; rest = sym (mark_true (f x n)) ∙ e }
came (got x n false) f y m e = absurd (never_marked (f x n) y m e)
came (no r p) f y m e = let z : ◌≡◌ {A = ℕ} 0 1 = cc in absurd (omega arith)

pub follows : {A B : Type 0} {g : Got A} (f : A → ℕ → Got B) {x : A} {n : ℕ} {h : Got B} → g ≡ got x n true → f x n ≡ h → bind g f ≡ h
unfolding bind
follows {A} {B} {g} f {x} {n} {h} e d = ap (λ (k : Got A). bind k f) e ∙ mark_true (f x n) ∙ d

-- binding is associative
and_assoc : (a b c : Bool) → (a && b) && c ≡ a && (b && c)
and_assoc true b c = refl
and_assoc false b c = refl

mark_twice : {B : Type 0} (a b : Bool) (h : Got B) → marked (a && b) h ≡ marked a (marked b h)
unfolding marked
mark_twice a b (got y m j) = ap (got y m) (and_assoc a b j)
mark_twice a b (no r p) = refl

pub mark_bind : {A B : Type 0} (a : Bool) (g : Got A) (f : A → ℕ → Got B) → bind (marked a g) f ≡ marked a (bind g f)
unfolding bind marked
mark_bind a (got x n j) f = mark_twice a j (f x n)
mark_bind a (no r p) f = refl

bind-bind : {A B C : Type 0} (g : Got A) (f : A → ℕ → Got B) (h : B → ℕ → Got C) → bind (bind g f) h ≡ bind g (λ x n. bind (f x n) h)
unfolding bind
bind-bind (got x n k) f h = mark_bind k (f x n) h
bind-bind (no r p) f h = refl

bind_same : {A B : Type 0} (g : Got A) {f h : A → ℕ → Got B} → ((x : A) (n : ℕ) → f x n ≡ h x n) → bind g f ≡ bind g h
unfolding bind
bind_same (got x n k) e = ap (marked k) (e x n)
bind_same (no r p) e = refl

-- a refusal of both is one of either
unmarked : {B : Type 0} (k : Bool) (h : Got B) (r p : ℕ) → marked k h ≡ no r p → h ≡ no r p
unfolding marked
unmarked k (got y m j) r p e = let z : ◌≡◌ {A = ℕ} 0 1 = cc in absurd (omega arith)
unmarked k (no a b) r p e = e

pub stopped : {A B : Type 0} (g : Got A) (f : A → ℕ → Got B) (r p : ℕ) → bind g f ≡ no r p → (g ≡ no r p → 0 < r) → ((x : A) (n : ℕ) → f x n ≡ no r p → 0 < r) → 0 < r
unfolding bind
stopped (got x n k) f r p e h l = l x n (unmarked k (f x n) r p e)
stopped {A} (no a b) f r p e h l =
    let i : a ≡ r = cc in
    let j : b ≡ p = cc in
    h (rw (i, j))

pub never_stopped : {A : Type 0} {x : A} {n : ℕ} {k : Bool} (r p : ℕ) → got x n k ≡ no r p → 0 < r
never_stopped r p e = let z : ◌≡◌ {A = ℕ} 0 1 = cc in absurd (omega arith)

-- what holds of one value and place holds of the same ones
pub carried : {A : Type 0} (P : A → ℕ → Type 0) {x y : A} {n m : ℕ} → got x n true ≡ got y m true → P x n → P y m
carried {A} P {x} {y} {n} {m} e t =
    let q : x ≡ y = cc in
    let r : n ≡ m = cc in
    rw (← q, ← r) t

-- ── Bytes at a place ──────────────────────────────────────────────
unfoldable pub Stands : List ℕ → ℕ → List ℕ → Type 0
Stands s at w = drop at s ≡ w ++ drop (at + length w) s

module _ (s : List ℕ) (at : ℕ) (a b : List ℕ) where
  past : at + length (a ++ b) ≡ at + length a + length b
  past = omega (arith, length-append a b)

  pub both_stand : Stands s at a → Stands s (at + length a) b → Stands s at (a ++ b)
  unfolding Stands
  both_stand h k = h ∙ ap (λ (l : List ℕ). a ++ l) k ∙ sym (append_assoc a b (drop (at + length a + length b) s)) ∙ ap (λ (n : ℕ). (a ++ b) ++ drop n s) (sym past)

  after : Stands s at (a ++ b) → drop (at + length a) s ≡ b ++ drop (at + length (a ++ b)) s
  unfolding Stands
  after h = sym (drop-drop (length a) at s) ∙ ap (λ (l : List ℕ). drop (length a) l) (h ∙ append_assoc a b (drop (at + length (a ++ b)) s)) ∙ drop_at a (b ++ drop (at + length (a ++ b)) s) (length a) refl

  pub first_stands : Stands s at (a ++ b) → Stands s at a
  unfolding Stands
  first_stands h = h ∙ append_assoc a b (drop (at + length (a ++ b)) s) ∙ ap (λ (l : List ℕ). a ++ l) (sym (after h))

  pub second_stands : Stands s at (a ++ b) → Stands s (at + length a) b
  unfolding Stands
  second_stands h = after h ∙ ap (λ (n : ℕ). b ++ drop n s) past

-- w was read at a place, up to n
pub record Read (s : List ℕ) (at : ℕ) (w : List ℕ) (n : ℕ) : Type 0 where
  pub stands : Stands s at w
  pub past : n ≡ at + length w

pub read_both : {s : List ℕ} {at : ℕ} {a b : List ℕ} {n m : ℕ} → Read s at a n → Read s n b m → Read s at (a ++ b) m
read_both {s} {at} {a} {b} {n} {m} h k = record {
  stands = both_stand s at a b h.stands (rw h.past at k.stands);
  past = omega (arith, h.past, k.past, length-append a b);
}

-- ── A codec ───────────────────────────────────────────────────────
pub record Codec (A : Type 0) : Type 1 where
  pub out : A → List ℕ
  pub into : List ℕ → ℕ → Got A
  pub Fits : A → Type 0
  -- writing then reading, and reading then writing
  pub back : (s : List ℕ) (at : ℕ) (x : A) → Fits x → Stands s at (out x) → into s at ≡ got x (at + length (out x)) true
  pub same : (s : List ℕ) (at : ℕ) (x : A) (n : ℕ) → Bytes s → into s at ≡ got x n true → Read s at (out x) n × Fits x
  -- a refusal has a number
  pub stops : (s : List ℕ) (at r p : ℕ) → into s at ≡ no r p → 0 < r

-- ── One column: a field of eight bytes whose number is at most `top`
unfoldable pub column_in : ℕ → ℕ → List ℕ → ℕ → Got ℕ
column_in tag top s at =
    pick (begins tag 8 (drop at s))
    (pick (leb (number_at 8 (drop (at + 3) s)) top) (got (number_at 8 (drop (at + 3) s)) (at + 11) true) (got 0 (at + 11) false))
    (no (number journal_malformed) at)

abbrev pub ColumnFits : ℕ → ℕ → Type 0
ColumnFits top x = (x ≤ top) × (x < 2 ^ 64)

module _ (tag top : ℕ) (s : List ℕ) (at : ℕ) where
  pub column_back : (x : ℕ) → ColumnFits top x → Stands s at (field_of tag (bytes_of 8 x)) → column_in tag top s at ≡ got x (at + length (field_of tag (bytes_of 8 x))) true
  unfolding column_in Stands bytes_of field_of head_of
  column_back x h e =
      let r = drop (at + 11) s in
      let b : begins tag 8 (drop at s) ≡ true = rw e (begins_field tag (bytes_of 8 x) r (omega arith)) in
      let n : number_at 8 (drop (at + 3) s) ≡ x = rw (← drop-drop 3 at s, e, body_past tag (bytes_of 8 x) r) (number_past 8 x r h.1) in
      pick_on _ _ b ∙ rw n (pick_on _ _ (le-leb x top h.0))

  pub column_same : (x n : ℕ) → Bytes s → column_in tag top s at ≡ got x n true → Read s at (field_of tag (bytes_of 8 x)) n × ColumnFits top x
  unfolding column_in pick Stands bytes_of field_of head_of
  column_same x n k e = go (begins tag 8 (drop at s)) refl (leb v top) refl e
    where
      v : ℕ
      v = number_at 8 (drop (at + 3) s)

      whole : begins tag 8 (drop at s) ≡ true → drop at s ≡ field_of tag (bytes_of 8 v) ++ drop (at + 11) s
      whole g =
          let l : 11 ≤ length (drop at s) = omega (arith, begins_room tag 8 0 (drop at s) g) in
          let w : take 8 (drop 3 (drop at s)) ≡ bytes_of 8 v = rw (← drop-drop 3 at s) (number_whole 8 (drop 3 (drop at s)) (bytes_drop 3 (drop at s) (bytes_drop at s k)) (rw length-drop (omega arith))) in
          sym (take-append-drop 11 (drop at s)) ∙ rw (field_bytes tag 8 (drop at s) (bytes_drop at s k) g, w, drop-drop 11 at s)

      go : (t : Bool) → begins tag 8 (drop at s) ≡ t → (u : Bool) → leb v top ≡ u → pick t (pick u (got v (at + 11) true) (got 0 (at + 11) false)) (no (number journal_malformed) at) ≡ got x n true → Read s at (field_of tag (bytes_of 8 x)) n × ColumnFits top x
      go true g true u e =
          let i : v ≡ x = cc in
          let j : at + 11 ≡ n = cc in
          (record { stands = rw i at (whole g); past = sym j }, (rw i at (leb-true v top u), rw i at (number_small 8 (drop (at + 3) s) (bytes_drop (at + 3) s k))))
      go true g false u e = let z : ◌≡◌ {A = ℕ} 0 1 = cc in absurd (omega arith)
      go false g u w e = let z : ◌≡◌ {A = ℕ} 0 1 = cc in absurd (omega arith)

module _ (tag top : ℕ) (s : List ℕ) (at : ℕ) where
  pub column_stops : (r p : ℕ) → column_in tag top s at ≡ no r p → 0 < r
  unfolding column_in pick
  column_stops r p e = go (begins tag 8 (drop at s)) (leb v top) e
    where
      v : ℕ
      v = number_at 8 (drop (at + 3) s)

      go : (t u : Bool) → pick t (pick u (got v (at + 11) true) (got 0 (at + 11) false)) (no (number journal_malformed) at) ≡ no r p → 0 < r
      go true true e = never_stopped r p e
      go true false e = never_stopped r p e
      go false u e = let i : number journal_malformed ≡ r = cc in omega (arith, i)

unfoldable pub column : (tag top : ℕ) → Codec ℕ
column tag top = record {
  out = λ x. field_of tag (bytes_of 8 x);
  into = column_in tag top;
  Fits = ColumnFits top;
  back = column_back tag top;
  same = column_same tag top;
  stops = column_stops tag top;
}

-- ── One after the other ───────────────────────────────────────────
module _ {A B : Type 0} (a : Codec A) (b : Codec B) where
  abbrev pub pair_out : A × B → List ℕ
  pair_out p = a.out p.0 ++ b.out p.1

  unfoldable pub pair_in : List ℕ → ℕ → Got (A × B)
  pair_in s at = bind (a.into s at) (λ x n. bind (b.into s n) (λ y m. got (x, y) m true))

  abbrev pub PairFits : A × B → Type 0
  PairFits p = a.Fits p.0 × b.Fits p.1

  pub pair_back : (s : List ℕ) (at : ℕ) (p : A × B) → PairFits p → Stands s at (pair_out p) → pair_in s at ≡ got p (at + length (pair_out p)) true
  unfolding pair_in
  pair_back s at p f e =
      let u = a.out p.0 in
      let w = b.out p.1 in
      let l : at + length u + length w ≡ at + length (u ++ w) = omega (arith, length-append u w) in
      follows _ (a.back s at p.0 f.0 (first_stands s at u w e))
      (follows _ (b.back s (at + length u) p.1 f.1 (second_stands s at u w e)) (ap (λ (n : ℕ). got p n true) l))

  pub pair_same : (s : List ℕ) (at : ℕ) (p : A × B) (n : ℕ) → Bytes s → pair_in s at ≡ got p n true → Read s at (pair_out p) n × PairFits p
  unfolding pair_in
  pair_same s at p n k e =
      let c = came _ _ p n e in
      let d = came _ _ p n c.rest in
      let g = a.same s at c.value c.place k c.first in
      let h = b.same s c.place d.value d.place k d.first in
      carried (λ p n. Read s at (pair_out p) n × PairFits p) d.rest (read_both g.0 h.0, (g.1, h.1))

  pub pair_stops : (s : List ℕ) (at r p : ℕ) → pair_in s at ≡ no r p → 0 < r
  unfolding pair_in
  pair_stops s at r p e =
      stopped _ _ r p e (a.stops s at r p) (λ x n e. stopped _ _ r p e (b.stops s n r p) (λ y m e. never_stopped r p e))

infixr 5 ◌then◌
unfoldable pub ◌then◌ : {A B : Type 0} → Codec A → Codec B → Codec (A × B)
◌then◌ a b = record {
  out = pair_out a b;
  into = pair_in a b;
  Fits = PairFits a b;
  back = pair_back a b;
  same = pair_same a b;
  stops = pair_stops a b;
}

-- ── A value by another's codec: a struct by its columns, a signed number by its bits
module _ {A B : Type 0} (f : A → B) (g : B → A) (a : Codec A) (h : (x : A) → a.Fits x → g (f x) ≡ x) where
  abbrev pub via_out : B → List ℕ
  via_out y = a.out (g y)

  unfoldable pub via_in : List ℕ → ℕ → Got B
  via_in s at = bind (a.into s at) (λ x n. got (f x) n true)

  abbrev pub ViaFits : B → Type 0
  ViaFits y = a.Fits (g y) × (f (g y) ≡ y)

  pub via_back : (s : List ℕ) (at : ℕ) (y : B) → ViaFits y → Stands s at (via_out y) → via_in s at ≡ got y (at + length (via_out y)) true
  unfolding via_in
  via_back s at y k e = follows _ (a.back s at (g y) k.0 e) (ap (λ (z : B). got z (at + length (via_out y)) true) k.1)

  pub via_same : (s : List ℕ) (at : ℕ) (y : B) (n : ℕ) → Bytes s → via_in s at ≡ got y n true → Read s at (via_out y) n × ViaFits y
  unfolding via_in
  via_same s at y n k e =
      let c = came _ _ y n e in
      let r = a.same s at c.value c.place k c.first in
      carried (λ y n. Read s at (via_out y) n × ViaFits y) c.rest (written c.value c.place (h c.value r.1) r)
    where
      written : (x : A) (m : ℕ) → g (f x) ≡ x → Read s at (a.out x) m × a.Fits x → Read s at (a.out (g (f x))) m × (a.Fits (g (f x)) × (f (g (f x)) ≡ f x))
      written x m i r = rw i (r.0, (r.1, refl))

  pub via_stops : (s : List ℕ) (at r p : ℕ) → via_in s at ≡ no r p → 0 < r
  unfolding via_in
  via_stops s at r p e = stopped _ _ r p e (a.stops s at r p) (λ x n e. never_stopped r p e)

unfoldable pub via : {A B : Type 0} (f : A → B) (g : B → A) (a : Codec A) → ((x : A) → a.Fits x → g (f x) ≡ x) → Codec B
via f g a h = record {
  out = via_out f g a h;
  into = via_in f g a h;
  Fits = ViaFits f g a h;
  back = via_back f g a h;
  same = via_same f g a h;
  stops = via_stops f g a h;
}

-- ── What only some editions have: elsewhere nothing is written, and d is read
module _ {A : Type 0} (d : A) (a : Codec A) where
  abbrev pub given_out : Bool → A → List ℕ
  given_out t x = pick t (a.out x) []

  abbrev pub given_in : Bool → List ℕ → ℕ → Got A
  given_in t s at = pick t (a.into s at) (got d at true)

  abbrev pub GivenFits : Bool → A → Type 0
  GivenFits t x = pick t (a.Fits x) (x ≡ d)

  pub given_back : (t : Bool) (s : List ℕ) (at : ℕ) (x : A) → GivenFits t x → Stands s at (given_out t x) → given_in t s at ≡ got x (at + length (given_out t x)) true
  unfolding pick
  given_back true s at x f e = a.back s at x f e
  given_back false s at x f e = rw (f, add-zero)

  pub given_same : (t : Bool) (s : List ℕ) (at : ℕ) (x : A) (n : ℕ) → Bytes s → given_in t s at ≡ got x n true → Read s at (given_out t x) n × GivenFits t x
  unfolding pick Stands
  given_same true s at x n k e = a.same s at x n k e
  given_same false s at x n k e =
      let q : at ≡ n = cc in
      (record { stands = ap (λ (m : ℕ). drop m s) (sym (add-zero at)); past = omega arith }, (cc))

  pub given_stops : (t : Bool) (s : List ℕ) (at r p : ℕ) → given_in t s at ≡ no r p → 0 < r
  unfolding pick
  given_stops true s at r p e = a.stops s at r p e
  given_stops false s at r p e = never_stopped r p e

unfoldable pub given : {A : Type 0} → Bool → A → Codec A → Codec A
given t d a = record {
  out = given_out d a t;
  into = given_in d a t;
  Fits = GivenFits d a t;
  back = given_back d a t;
  same = given_same d a t;
  stops = given_stops d a t;
}

-- ── A table: the number of its rows, at most `most`, then the rows ─
module _ {A : Type 0} (a : Codec A) where
  unfoldable pub all_out : List A → List ℕ
  all_out [] = []
  all_out (x ∷ xs) = a.out x ++ all_out xs

  unfoldable pub some_in : ℕ → List ℕ → ℕ → Got (List A)
  some_in zero s at = got [] at true
  some_in (suc n) s at = bind (a.into s at) (λ x p. bind (some_in n s p) (λ xs q. got (x ∷ xs) q true))

  unfoldable pub AllFit : List A → Type 0
  AllFit [] = record {}
  AllFit (x ∷ xs) = a.Fits x × AllFit xs

  pub some_back : (xs : List A) (s : List ℕ) (at : ℕ) → AllFit xs → Stands s at (all_out xs) → some_in (length xs) s at ≡ got xs (at + length (all_out xs)) true
  unfolding all_out some_in AllFit
  some_back [] s at f e = ap (λ (n : ℕ). got [] n true) (sym (add-zero at))
  some_back (x ∷ xs) s at f e =
      let u = a.out x in
      let w = all_out xs in
      let l : at + length u + length w ≡ at + length (u ++ w) = omega (arith, length-append u w) in
      follows _ (a.back s at x f.0 (first_stands s at u w e))
      (follows _ (some_back xs s (at + length u) f.1 (second_stands s at u w e)) (ap (λ (n : ℕ). got (x ∷ xs) n true) l))

  pub record Rows (n : ℕ) (s : List ℕ) (at : ℕ) (xs : List A) (m : ℕ) : Type 0 where
    pub count : length xs ≡ n
    pub read : Read s at (all_out xs) m
    pub fit : AllFit xs

  pub some_same : (n : ℕ) (s : List ℕ) (at : ℕ) (xs : List A) (m : ℕ) → Bytes s → some_in n s at ≡ got xs m true → Rows n s at xs m
  unfolding all_out some_in AllFit Stands
  some_same zero s at xs m k e =
      carried (λ xs m. Rows 0 s at xs m) e record { count = refl; read = record { stands = ap (λ (n : ℕ). drop n s) (sym (add-zero at)); past = omega arith }; fit = record {} }
  some_same (suc n) s at xs m k e =
      let c = came _ _ xs m e in
      let d = came _ _ xs m c.rest in
      let g = a.same s at c.value c.place k c.first in
      let h = some_same n s c.place d.value d.place k d.first in
      carried (λ xs m. Rows (suc n) s at xs m) d.rest record { count = ap suc h.count; read = read_both g.0 h.read; fit = (g.1, h.fit) }

  pub some_stops : (n : ℕ) (s : List ℕ) (at r p : ℕ) → some_in n s at ≡ no r p → 0 < r
  unfolding some_in
  some_stops zero s at r p e = never_stopped r p e
  some_stops (suc n) s at r p e = stopped _ _ r p e (a.stops s at r p) (λ x q e. stopped _ _ r p e (some_stops n s q r p) (λ xs q e. never_stopped r p e))

  -- the rows before the last, and the last
  pub some_last : (n : ℕ) (s : List ℕ) (at : ℕ) → some_in (suc n) s at ≡ bind (some_in n s at) (λ xs p. bind (a.into s p) (λ x q. got (xs ++ (x ∷ [])) q true))
  unfolding some_in bind marked
  some_last zero s at = bind_same (a.into s at) (λ x p. refl) ∙ sym (mark_true (bind (a.into s at) (λ x q. got (x ∷ []) q true)))
  some_last (suc n) s at = one (a.into s at) (λ p. some_last n s p)
    where
      one : (g : Got A) → ((p : ℕ) → some_in (suc n) s p ≡ bind (some_in n s p) (λ xs q. bind (a.into s q) (λ x r. got (xs ++ (x ∷ [])) r true)))
          → bind g (λ x p. bind (some_in (suc n) s p) (λ xs q. got (x ∷ xs) q true)) ≡ bind (bind g (λ x p. bind (some_in n s p) (λ xs q. got (x ∷ xs) q true))) (λ xs p. bind (a.into s p) (λ x q. got (xs ++ (x ∷ [])) q true))
      one (got x p k) i =
          ap (marked k) (ap (λ (h : Got (List A)). bind h (λ xs q. got (x ∷ xs) q true)) (i p)
          ∙ bind-bind (some_in n s p) (λ xs q. bind (a.into s q) (λ y r. got (xs ++ (y ∷ [])) r true)) (λ xs q. got (x ∷ xs) q true)
          ∙ bind_same (some_in n s p) (λ xs q. bind-bind (a.into s q) (λ y r. got (xs ++ (y ∷ [])) r true) (λ ys r. got (x ∷ ys) r true) ∙ sym (mark_true (bind (a.into s q) (λ y r. got (x ∷ (xs ++ (y ∷ []))) r true))))
          ∙ sym (bind-bind (some_in n s p) (λ xs q. got (x ∷ xs) q true) (λ xs q. bind (a.into s q) (λ y r. got (xs ++ (y ∷ [])) r true))))
          ∙ sym (mark_bind k (bind (some_in n s p) (λ xs q. got (x ∷ xs) q true)) (λ xs q. bind (a.into s q) (λ y r. got (xs ++ (y ∷ [])) r true)))
      one (no r p) i = refl

-- the number of rows; past the limit reading ends at once, whatever follows
unfoldable pub count_in : ℕ → ℕ → List ℕ → ℕ → Got ℕ
count_in tag most s at = bind (column_in tag (2 ^ 64 - 1) s at) (λ n p. pick (leb n most) (got n p true) (no (number book_unsound) 0))

module _ {A : Type 0} (tag most : ℕ) (a : Codec A) where
  abbrev pub rows_out : List A → List ℕ
  rows_out xs = field_of tag (bytes_of 8 (length xs)) ++ all_out a xs

  unfoldable pub rows_in : List ℕ → ℕ → Got (List A)
  rows_in s at = bind (count_in tag most s at) (λ n p. some_in a n s p)

  abbrev pub RowsFit : List A → Type 0
  RowsFit xs = ColumnFits most (length xs) × AllFit a xs

  pub rows_back : (s : List ℕ) (at : ℕ) (xs : List A) → RowsFit xs → Stands s at (rows_out xs) → rows_in s at ≡ got xs (at + length (rows_out xs)) true
  unfolding rows_in count_in
  rows_back s at xs f e =
      let u = field_of tag (bytes_of 8 (length xs)) in
      let w = all_out a xs in
      let l : at + length u + length w ≡ at + length (u ++ w) = omega (arith, length-append u w) in
      follows _ (follows _ (column_back tag (2 ^ 64 - 1) s at (length xs) (omega (arith, f.0), f.0.1) (first_stands s at u w e)) (pick_on _ _ (le-leb (length xs) most f.0.0)))
      (some_back a xs s (at + length u) f.1 (second_stands s at u w e) ∙ ap (λ (n : ℕ). got xs n true) l)

  pub rows_same : (s : List ℕ) (at : ℕ) (xs : List A) (n : ℕ) → Bytes s → rows_in s at ≡ got xs n true → Read s at (rows_out xs) n × RowsFit xs
  unfolding rows_in count_in pick
  rows_same s at xs n k e =
      let c = came _ _ xs n e in
      let d = came _ _ c.value c.place c.first in
      let h = some_same a c.value s c.place xs n k c.rest in
      counted d.value d.place c.value c.place d.first (leb d.value most) refl d.rest h
    where
      counted : (v p w q : ℕ) → column_in tag (2 ^ 64 - 1) s at ≡ got v p true → (t : Bool) → leb v most ≡ t → pick t (got v p true) (no (number book_unsound) 0) ≡ got w q true → Rows a w s q xs n → Read s at (rows_out xs) n × RowsFit xs
      counted v p w q i true l g h =
          let r = column_same tag (2 ^ 64 - 1) s at v p k i in
          let z : v ≡ length xs = carried (λ w q. (j : w ≡ length xs) → v ≡ length xs) g (λ j. j) (sym h.count) in
          let y : p ≡ q = cc (g) in
          (read_both (rw (z, y) at r.0) h.read, ((omega (arith, leb-true v most l), omega (arith, r.1)), h.fit))
      counted v p w q i false l g h = let z : ◌≡◌ {A = ℕ} 0 1 = cc in absurd (omega arith)

  pub rows_stops : (s : List ℕ) (at r p : ℕ) → rows_in s at ≡ no r p → 0 < r
  unfolding rows_in count_in pick
  rows_stops s at r p e = stopped _ _ r p e counts (λ n q e. some_stops a n s q r p e)
    where
      past : (t : Bool) (n q : ℕ) → pick t (got n q true) (no (number book_unsound) 0) ≡ no r p → 0 < r
      past true n q e = never_stopped r p e
      past false n q e = let i : number book_unsound ≡ r = cc in omega (arith, i)

      counts : count_in tag most s at ≡ no r p → 0 < r
      counts e = stopped _ _ r p e (column_stops tag (2 ^ 64 - 1) s at r p) (λ n q e. past (leb n most) n q e)

unfoldable pub rows : {A : Type 0} → ℕ → ℕ → Codec A → Codec (List A)
rows tag most a = record {
  out = rows_out tag most a;
  into = rows_in tag most a;
  Fits = RowsFit tag most a;
  back = rows_back tag most a;
  same = rows_same tag most a;
  stops = rows_stops tag most a;
}

-- ── A number first that says how the rest is read, as an edition does; one that is not known is malformed
module _ {A : Type 0} (tag : ℕ) (known : ℕ → Bool) (key : A → ℕ) (c : ℕ → Codec A) (keyed : (e : ℕ) (x : A) → (c e).Fits x → key x ≡ e) where
  abbrev pub led_out : A → List ℕ
  led_out x = field_of tag (bytes_of 8 (key x)) ++ (c (key x)).out x

  abbrev pub rest_in : ℕ → ℕ → List ℕ → ℕ → Got A
  rest_in at e s p = pick (known e) ((c e).into s p) (no (number journal_malformed) at)

  unfoldable pub led_in : List ℕ → ℕ → Got A
  led_in s at = bind (column_in tag (2 ^ 64 - 1) s at) (λ e p. rest_in at e s p)

  pub record LedFits (x : A) : Type 0 where
    pub small : key x < 2 ^ 64
    pub is : known (key x) ≡ true
    pub fits : (c (key x)).Fits x

  pub led_back : (s : List ℕ) (at : ℕ) (x : A) → LedFits x → Stands s at (led_out x) → led_in s at ≡ got x (at + length (led_out x)) true
  unfolding led_in
  led_back s at x f h =
      let u = field_of tag (bytes_of 8 (key x)) in
      let w = (c (key x)).out x in
      let l : at + length u + length w ≡ at + length (u ++ w) = omega (arith, length-append u w) in
      follows _ (column_back tag (2 ^ 64 - 1) s at (key x) (omega (arith, f.small), f.small) (first_stands s at u w h))
      (pick_on _ _ f.is ∙ (c (key x)).back s (at + length u) x f.fits (second_stands s at u w h) ∙ ap (λ (n : ℕ). got x n true) l)

  pub led_same : (s : List ℕ) (at : ℕ) (x : A) (n : ℕ) → Bytes s → led_in s at ≡ got x n true → Read s at (led_out x) n × LedFits x
  unfolding led_in pick
  led_same s at x n k h =
      let d = came _ _ x n h in
      chosen d.value d.place (column_same tag (2 ^ 64 - 1) s at d.value d.place k d.first) (known d.value) refl d.rest
    where
      all : (e p : ℕ) → Read s at (field_of tag (bytes_of 8 e)) p × ColumnFits (2 ^ 64 - 1) e → known e ≡ true → Read s p ((c e).out x) n × (c e).Fits x → key x ≡ e → Read s at (led_out x) n × LedFits x
      all e p a t r i =
          let f : (c (key x)).Fits x = rw i r.1 in
          (rw i (read_both a.0 r.0), record { small = rw i a.1.1; is = rw i t; fits = f })

      chosen : (e p : ℕ) → Read s at (field_of tag (bytes_of 8 e)) p × ColumnFits (2 ^ 64 - 1) e → (t : Bool) → known e ≡ t → pick t ((c e).into s p) (no (number journal_malformed) at) ≡ got x n true → Read s at (led_out x) n × LedFits x
      chosen e p a true t h = let r = (c e).same s p x n k h in all e p a t r (keyed e x r.1)
      chosen e p a false t h = let z : ◌≡◌ {A = ℕ} 0 1 = cc (h) in absurd (omega arith)

  pub led_stops : (s : List ℕ) (at r p : ℕ) → led_in s at ≡ no r p → 0 < r
  unfolding led_in pick
  led_stops s at r p h = stopped _ _ r p h (column_stops tag (2 ^ 64 - 1) s at r p) (λ e q h. chosen e q (known e) h)
    where
      chosen : (e q : ℕ) (t : Bool) → pick t ((c e).into s q) (no (number journal_malformed) at) ≡ no r p → 0 < r
      chosen e q true h = (c e).stops s q r p h
      chosen e q false h = let i : number journal_malformed ≡ r = cc (h) in omega (arith, i)

unfoldable pub led : {A : Type 0} (tag : ℕ) (known : ℕ → Bool) (key : A → ℕ) (c : ℕ → Codec A) → ((e : ℕ) (x : A) → (c e).Fits x → key x ≡ e) → Codec A
led tag known key c h = record {
  out = led_out tag known key c h;
  into = led_in tag known key c h;
  Fits = LedFits tag known key c h;
  back = led_back tag known key c h;
  same = led_same tag known key c h;
  stops = led_stops tag known key c h;
}
