-- The walk of a cursor through the fields: each step is one equation, and steps compose with no arithmetic. Assumes nothing.
use Rattle.std.proofs.Math.Path.{◌≡◌, refl, sym, ap}
use Rattle.std.proofs.Common.{◌∙◌, le-leb, eq-eqb}
use Rattle.std.specs.Prelude.{Bool, ◌&&◌, List, [], ◌∷◌, ◌++◌, length, drop, leb, ℤ}
use Rattle.std.proofs.Math.Bool.{true, false}
use Prim.Native.Nat.{ℕ, ◌+◌, ◌-◌, ◌^◌, ◌≤◌, ◌<◌}
use native.Mathlib.Omega.{arith}
use Rattle.std.proofs.Math.Numerals.{add-one}
use Rattle.std.proofs.Math.ListN.{length-append}
use Rattle.std.proofs.Math.Dec.{eqb}
use Rattle.std.proofs.lemmas.Bool.{lt-leb}
use Rattle.refusal.specs.Choice.{pick}
use Rattle.refusal.specs.ChoiceLaws.{pick_on, pick_off, on, off}
use Rattle.refusal.specs.Refusal.{number, journal_malformed, book_unsound}
use Rattle.wire.specs.Field.{begins, number_at}
use Rattle.money.specs.Range.{of_bits, bits_of}
use Rattle.money.specs.Facts.{bits_of_bits}
use Rattle.codec.specs.Codec.{Got, got, no, marked, mark_true, mark_bind, bind, Codec, column_in, column, count_in, some_in, some_last, rows_in, rows, pair_in, via_in, ◌then◌, via, given, led, led_in, rest_in}
use Rattle.codec.specs.Columns.{signed, flag, is_one, one_if, flag_back}
use Rattle.codec.specs.Cursor.{cursor, landed, next_of, count_of}
use Rattle.codec.specs.declared.Cursor.{Cursor}

-- what a cursor says of x, and what reading on from it gives
unfoldable pub shows : {A : Type 0} → Cursor → A → Got A
shows c x = pick (eqb c.code 0) (got x c.at c.ok) (no c.code c.at)

unfoldable pub from : {A : Type 0} → Cursor → (List ℕ → ℕ → Got A) → List ℕ → Got A
from c k s = pick (eqb c.code 0) (marked c.ok (k s c.at)) (no c.code c.at)

-- from c on, k reads x in s and leaves the cursor d
pub record Walks {A : Type 0} (s : List ℕ) (c : Cursor) (k : List ℕ → ℕ → Got A) (d : Cursor) (x : A) : Type 0 where
  pub is : shows d x ≡ from c k s

-- and so a codec does
pub record Takes {A : Type 0} (s : List ℕ) (c : Cursor) (a : Codec A) (d : Cursor) (x : A) : Type 0 where
  pub walks : Walks s c a.into d x

-- one number: the cursor after it, which has read it; it is at most `top`, and 0 once the cursor has refused
pub record Next (s : List ℕ) (c : Cursor) (tag top : ℕ) (r : Cursor) : Type 0 where
  pub is : r ≡ next_of s c tag top
  pub takes : Takes s c (column tag top) r r.x
  pub low : r.x ≤ top
  pub idle : eqb r.code 0 ≡ false → r.x ≡ 0

-- the number of a table's rows
pub record Count (s : List ℕ) (c : Cursor) (tag most : ℕ) (r : Cursor) : Type 0 where
  pub is : r ≡ count_of s c tag most
  pub walks : Walks s c (count_in tag most) r r.x
  pub low : r.x ≤ most

and-true : (b : Bool) → b && true ≡ b
and-true true = refl
and-true false = refl

and-false : (b : Bool) → b && false ≡ false
and-false true = refl
and-false false = refl

-- ── One number ────────────────────────────────────────────────────
module _ (s : List ℕ) (c : Cursor) (tag top : ℕ) where
  -- nothing more is read once the cursor has refused
  pub next_refused : eqb c.code 0 ≡ false → Next s c tag top (cursor c.code c.at c.ok 0)
  unfolding shows from next_of
  next_refused e = record { is = off _ e refl; takes = record { walks = record { is = pick_off _ _ e ∙ sym (pick_off _ _ e) } }; low = omega arith; idle = λ _. refl }

module _ (s : List ℕ) (c : Cursor) (tag top : ℕ) (e : c.code ≡ 0) where
  zero_code : eqb c.code 0 ≡ true
  zero_code = eq-eqb c.code 0 e

  found : {g : Got ℕ} → column_in tag top s c.at ≡ g → marked c.ok g ≡ from c (column_in tag top) s
  unfolding from
  found i = sym (pick_on _ _ zero_code ∙ ap (marked c.ok) i)

  is_wrong : begins tag 8 (drop c.at s) ≡ false → cursor (number journal_malformed) c.at c.ok 0 ≡ next_of s c tag top
  unfolding next_of landed column_in
  is_wrong b = on _ zero_code (sym (ap (landed c) (pick_off _ _ b)))

  is_high : begins tag 8 (drop c.at s) ≡ true → top < number_at 8 (drop (c.at + 3) s) → cursor 0 (c.at + 11) false 0 ≡ next_of s c tag top
  unfolding next_of landed column_in
  is_high b h = on _ zero_code (ap (λ (k : Bool). cursor 0 (c.at + 11) k 0) (sym (and-false c.ok)) ∙ sym (ap (landed c) (pick_on _ _ b ∙ pick_off _ _ (lt-leb _ _ h))))

  is_in : {x : ℕ} → begins tag 8 (drop c.at s) ≡ true → x ≡ number_at 8 (drop (c.at + 3) s) → x ≤ top → cursor 0 (c.at + 11) c.ok x ≡ next_of s c tag top
  unfolding next_of landed column_in
  is_in {x} b i h = on _ zero_code (ap (λ (k : Bool). cursor 0 (c.at + 11) k x) (sym (and-true c.ok)) ∙ ap (cursor 0 (c.at + 11) (c.ok && true)) i ∙ sym (ap (landed c) (pick_on _ _ b ∙ pick_on _ _ (le-leb _ top (rw i at h)))))

  pub next_wrong : begins tag 8 (drop c.at s) ≡ false → Next s c tag top (cursor (number journal_malformed) c.at c.ok 0)
  unfolding shows column_in column marked pick
  next_wrong b = record { is = is_wrong b; takes = record { walks = record { is = found (pick_off _ _ b) } }; low = omega arith; idle = λ _. refl }

  pub next_high : begins tag 8 (drop c.at s) ≡ true → top < number_at 8 (drop (c.at + 3) s) → Next s c tag top (cursor 0 (c.at + 11) false 0)
  unfolding shows column_in column marked pick
  next_high b h = record { is = is_high b h; takes = record { walks = record { is = ap (got 0 (c.at + 11)) (sym (and-false c.ok)) ∙ found (pick_on _ _ b ∙ pick_off _ _ (lt-leb _ _ h)) } }; low = omega arith; idle = λ _. refl }

  there : begins tag 8 (drop c.at s) ≡ true → number_at 8 (drop (c.at + 3) s) ≤ top → column_in tag top s c.at ≡ got (number_at 8 (drop (c.at + 3) s)) (c.at + 11) true
  unfolding column_in
  there b h = pick_on _ _ b ∙ pick_on _ _ (le-leb _ top h)

  pub next_in : {x : ℕ} → begins tag 8 (drop c.at s) ≡ true → x ≡ number_at 8 (drop (c.at + 3) s) → x ≤ top → Next s c tag top (cursor 0 (c.at + 11) c.ok x)
  unfolding shows column marked pick
  next_in {x} b i h = record {
    is = is_in b i h;
    takes = record { walks = record { is = ap (got x (c.at + 11)) (sym (and-true c.ok)) ∙ found (there b (rw i at h) ∙ ap (λ (v : ℕ). got v (c.at + 11) true) (sym i)) } };
    low = h;
    idle = λ z. let y : ◌≡◌ {A = ℕ} 0 1 = cc in absurd (omega arith);
  }

-- ── One after the other ───────────────────────────────────────────
module _ {A B : Type 0} where
  from_shown : (s : List ℕ) (d : Cursor) (x : A) (f : A → List ℕ → ℕ → Got B) → from d (f x) s ≡ bind (shows d x) (λ z n. f z s n)
  unfolding from shows bind pick
  from_shown s d x f = go (eqb d.code 0)
    where
      go : (t : Bool) → pick t (marked d.ok (f x s d.at)) (no d.code d.at) ≡ bind (pick t (got x d.at d.ok) (no d.code d.at)) (λ z n. f z s n)
      go true = refl
      go false = refl

  bind_from : (s : List ℕ) (c : Cursor) (k : List ℕ → ℕ → Got A) (f : A → List ℕ → ℕ → Got B) → bind (from c k s) (λ z n. f z s n) ≡ from c (λ l at. bind (k l at) (λ z n. f z l n)) s
  unfolding from bind pick
  bind_from s c k f = go (eqb c.code 0)
    where
      go : (t : Bool) → bind (pick t (marked c.ok (k s c.at)) (no c.code c.at)) (λ z n. f z s n) ≡ pick t (marked c.ok (bind (k s c.at) (λ z n. f z s n))) (no c.code c.at)
      go true = mark_bind c.ok (k s c.at) (λ z n. f z s n)
      go false = refl

  pub walks_on : {s : List ℕ} {c d e : Cursor} {k : List ℕ → ℕ → Got A} {x : A} {y : B} (f : A → List ℕ → ℕ → Got B) → Walks s c k d x → Walks s d (f x) e y → Walks s c (λ l at. bind (k l at) (λ z n. f z l n)) e y
  walks_on {s} {c} {d} {e} {k} {x} {y} f p q = record { is = q.is ∙ from_shown s d x f ∙ ap (λ (h : Got A). bind h (λ z n. f z s n)) p.is ∙ bind_from s c k f }

-- nothing more
pub walks_none : {A : Type 0} (s : List ℕ) (c : Cursor) (x : A) → Walks s c (λ l n. got x n true) c x
unfolding shows from marked
walks_none s c x = record { is = ap (λ (k : Bool). pick (eqb c.code 0) (got x c.at k) (no c.code c.at)) (sym (and-true c.ok)) }

pub walks_map : {A B : Type 0} {s : List ℕ} {c d : Cursor} {k : List ℕ → ℕ → Got A} {x : A} (f : A → B) → Walks s c k d x → Walks s c (λ l at. bind (k l at) (λ z n. got (f z) n true)) d (f x)
walks_map {A} {B} {s} {c} {d} {k} {x} f p = walks_on (λ z l n. got (f z) n true) p (walks_none s d (f x))

module _ {A B : Type 0} where
  pub takes_then : {s : List ℕ} {c d e : Cursor} {a : Codec A} {b : Codec B} {x : A} {y : B} → Takes s c a d x → Takes s d b e y → Takes s c (a then b) e (x, y)
  unfolding ◌then◌ pair_in
  takes_then {s} {c} {d} {e} {a} {b} {x} {y} p q = record { walks = walks_on (λ z l n. bind (b.into l n) (λ w m. got (z, w) m true)) p.walks (walks_map (λ w. (x, w)) q.walks) }

  pub takes_via : {s : List ℕ} {c d : Cursor} (f : A → B) (g : B → A) {a : Codec A} (h : (x : A) → a.Fits x → g (f x) ≡ x) {x : A} → Takes s c a d x → Takes s c (via f g a h) d (f x)
  unfolding via via_in
  takes_via f g h p = record { walks = walks_map f p.walks }

-- ── What only some editions have ──────────────────────────────────
module _ {A : Type 0} {s : List ℕ} {c : Cursor} (t : Bool) (z : A) (a : Codec A) where
  pub takes_given : {d : Cursor} {x : A} → t ≡ true → Takes s c a d x → Takes s c (given t z a) d x
  unfolding given pick
  takes_given e g = rw e (record { walks = record { is = g.walks.is } })

  pub takes_lacking : t ≡ false → Takes s c (given t z a) c z
  unfolding given pick
  takes_lacking e = rw e (record { walks = walks_none s c z })

-- ── Columns of other types ────────────────────────────────────────
pub takes_signed : {s : List ℕ} {c d : Cursor} {z : ℤ} (tag : ℕ) → Next s c tag (2 ^ 64 - 1) d → z ≡ of_bits d.x → Takes s c (signed tag) d (of_bits (bits_of z))
unfolding signed column
takes_signed {s} {c} {d} {z} tag n e =
    let i : of_bits d.x ≡ of_bits (bits_of z) = sym (ap (λ (y : ℤ). of_bits (bits_of y)) e ∙ ap of_bits (bits_of_bits d.x (omega (arith, n.low)))) in
    rw i at (takes_via of_bits bits_of (λ x f. bits_of_bits x f.1) n.takes)

pub takes_flag : {s : List ℕ} {c d : Cursor} (tag : ℕ) → Next s c tag 1 d → Takes s c (flag tag) d (is_one d.x)
unfolding flag column
takes_flag tag n = takes_via is_one one_if (λ x f. flag_back x f.0) n.takes

-- ── The number of rows ────────────────────────────────────────────
-- what a number that was read says of the rows
module _ (c : Cursor) (most : ℕ) where
  limit : ℕ → ℕ → Got ℕ
  limit v p = pick (leb v most) (got v p true) (no (number book_unsound) 0)

  landed_in : (g : Got ℕ) → (landed c g).x ≤ most → landed c g ≡ landed c (bind g limit)
  unfolding landed bind marked limit
  landed_in (got x n j) h = rw (pick_on (got x n true) (no (number book_unsound) 0) (le-leb x most h)) (ap (λ (z : Bool). cursor 0 n (c.ok && z) x) (sym (and-true j)))
  landed_in (no r p) h = refl

  landed_past : (g : Got ℕ) → most < (landed c g).x → cursor (number book_unsound) 0 c.ok 0 ≡ landed c (bind g limit)
  unfolding landed bind marked limit
  landed_past (got x n j) h = rw (pick_off (got x n true) (no (number book_unsound) 0) (lt-leb x most h))
  landed_past (no r p) h = absurd (omega (arith, h))

module _ (s : List ℕ) (c : Cursor) (tag most : ℕ) (k : Cursor) (n : Next s c tag (2 ^ 64 - 1) k) where
  within : ℕ → List ℕ → ℕ → Got ℕ
  within v l p = pick (leb v most) (got v p true) (no (number book_unsound) 0)

  is_past : most < k.x → cursor (number book_unsound) 0 c.ok 0 ≡ count_of s c tag most
  unfolding count_of count_in next_of limit pick
  is_past h = go (eqb c.code 0) (rw n.is at h)
    where
      go : (t : Bool) → most < (pick t (landed c (column_in tag (2 ^ 64 - 1) s c.at)) (cursor c.code c.at c.ok 0)).x
          → cursor (number book_unsound) 0 c.ok 0 ≡ pick t (landed c (bind (column_in tag (2 ^ 64 - 1) s c.at) (limit c most))) (cursor c.code c.at c.ok 0)
      go true h = landed_past c most (column_in tag (2 ^ 64 - 1) s c.at) h
      go false h = absurd (omega (arith, h))

  is_within : k.x ≤ most → k ≡ count_of s c tag most
  unfolding count_of count_in next_of limit pick
  is_within h = n.is ∙ go (eqb c.code 0) (rw n.is at h)
    where
      go : (t : Bool) → (pick t (landed c (column_in tag (2 ^ 64 - 1) s c.at)) (cursor c.code c.at c.ok 0)).x ≤ most
          → pick t (landed c (column_in tag (2 ^ 64 - 1) s c.at)) (cursor c.code c.at c.ok 0) ≡ pick t (landed c (bind (column_in tag (2 ^ 64 - 1) s c.at) (limit c most))) (cursor c.code c.at c.ok 0)
      go true h = landed_in c most (column_in tag (2 ^ 64 - 1) s c.at) h
      go false h = refl

  pub count_past : most < k.x → Count s c tag most (cursor (number book_unsound) 0 c.ok 0)
  unfolding within count_in column shows from marked pick
  count_past h = record { is = is_past h; walks = walks_on within n.takes.walks (past (eqb k.code 0) refl); low = omega arith }
    where
      past : (t : Bool) → eqb k.code 0 ≡ t → Walks s k (within k.x) (cursor (number book_unsound) 0 c.ok 0) 0
      past true e = record { is = sym (pick_on _ _ e ∙ ap (marked k.ok) (pick_off _ _ (lt-leb k.x most h))) }
      past false e = absurd (omega (arith, n.idle e))

  pub count_in_lem : k.x ≤ most → Count s c tag most k
  unfolding within count_in column pick
  count_in_lem h = record { is = is_within h; walks = walks_on within n.takes.walks record { is = (walks_none s k k.x).is ∙ ap (λ (t : Bool). from k (λ l p. pick t (got k.x p true) (no (number book_unsound) 0)) s) (sym (le-leb k.x most h)) }; low = h }

-- ── The rows: a loop that has read i of them ──────────────────────
pub record Filling {E : Type 0} (a : Codec E) (s : List ℕ) (k : Cursor) (i : ℕ) (t : List E) (d : Cursor) : Type 0 where
  pub walks : Walks s k (some_in a i) d t
  pub count : length t ≡ i

module _ {E : Type 0} (a : Codec E) (s : List ℕ) (k : Cursor) where
  pub fill_start : Filling a s k 0 [] k
  unfolding some_in
  fill_start = record { walks = walks_none s k []; count = refl }

  pub fill_turn : {i : ℕ} {t : List E} {d e : Cursor} {x : E} → Filling a s k i t d → Takes s d a e x → Filling a s k (i + 1) (t ++ (x ∷ [])) e
  unfolding from
  fill_turn {i} {t} {d} {e} {x} g h = rw add-one record {
    walks = record { is = last.is ∙ ap (λ (h : Got (List E)). pick (eqb k.code 0) (marked k.ok h) (no k.code k.at)) (sym (some_last a i s k.at)) };
    count = omega (arith, length-append t (x ∷ []), g.count);
  }
    where
      last : Walks s k (λ l at. bind (some_in a i l at) (λ xs p. bind (a.into l p) (λ y q. got (xs ++ (y ∷ [])) q true))) e (t ++ (x ∷ []))
      last = walks_on (λ xs l p. bind (a.into l p) (λ y q. got (xs ++ (y ∷ [])) q true)) g.walks (walks_map (λ y. t ++ (y ∷ [])) h.walks)

pub fill_done : {E : Type 0} {a : Codec E} {s : List ℕ} {c k d : Cursor} {t : List E} {tag most i : ℕ} → Count s c tag most k → i ≡ k.x → Filling a s k i t d → Takes s c (rows tag most a) d t
unfolding rows rows_in
fill_done {E} {a} {s} {c} {k} {d} {t} {tag} {most} {i} m j g = record { walks = walks_on (λ v. some_in a v) m.walks (rw j at g.walks) }

-- ── The key first, and the rest by it ─────────────────────────────
module _ {A : Type 0} (tag : ℕ) (known : ℕ → Bool) (key : A → ℕ) (c : ℕ → Codec A) (h : (e : ℕ) (x : A) → (c e).Fits x → key x ≡ e) {s : List ℕ} {at : ℕ} {k : Cursor} (n : Next s (cursor 0 at true 0) tag (2 ^ 64 - 1) k) where
  pub takes_known : {d : Cursor} {x : A} → known k.x ≡ true → Takes s k (c k.x) d x → Takes s (cursor 0 at true 0) (led tag known key c h) d x
  unfolding led led_in column from pick
  takes_known {d} {x} t g = record { walks = record { is = (walks_on (λ e l p. rest_in tag known key c h at e l p) n.takes.walks (rest g.walks)).is } }
    where
      rest : Walks s k (c k.x).into d x → Walks s k (rest_in tag known key c h at k.x) d x
      rest w = record { is = w.is ∙ ap (λ (b : Bool). from k (λ l p. pick b ((c k.x).into l p) (no (number journal_malformed) at)) s) (sym t) }

  -- where the number is there and not known, reading ends at its tag
  pub led_unknown : begins tag 8 (drop at s) ≡ true → known k.x ≡ false → led_in tag known key c h s at ≡ no (number journal_malformed) at
  unfolding led_in column_in next_of landed bind marked pick
  led_unknown b u = ap (λ (g : Got ℕ). bind g (λ e p. rest_in tag known key c h at e s p)) (pick_on _ _ b) ∙ go (leb v (2 ^ 64 - 1)) (rw (n.is ∙ ap (landed (cursor 0 at true 0)) (pick_on _ _ b)) at u)
    where
      v : ℕ
      v = number_at 8 (drop (at + 3) s)

      go : (t : Bool) → known (landed (cursor 0 at true 0) (pick t (got v (at + 11) true) (got 0 (at + 11) false))).x ≡ false
          → bind (pick t (got v (at + 11) true) (got 0 (at + 11) false)) (λ e p. rest_in tag known key c h at e s p) ≡ no (number journal_malformed) at
      go true u = ap (marked true) (pick_off _ _ u)
      go false u = ap (marked false) (pick_off _ _ u)

-- a cursor that has refused stays, whatever is read on from it
pub stays : {A : Type 0} {s : List ℕ} {k d : Cursor} {a : Codec A} {x : A} → eqb k.code 0 ≡ false → Takes s k a d x → shows d x ≡ no k.code k.at
unfolding from
stays e g = g.walks.is ∙ pick_off _ _ e

-- what is read from the first byte on
pub from_start : {A : Type 0} {s : List ℕ} {d : Cursor} {a : Codec A} {x : A} → Takes s (cursor 0 0 true 0) a d x → shows d x ≡ a.into s 0
unfolding from pick
from_start {A} {s} {d} {a} g = g.walks.is ∙ mark_true (a.into s 0)
