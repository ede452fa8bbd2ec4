-- The walk of a pen through the fields: a value is written, and it is one that can be read back. Assumes nothing.
use Rattle.std.specs.Prelude.{◌≡◌, Bool, ℕ, ◌^◌, ◌≤◌, ◌<◌, ℤ, length}
use Rattle.std.proofs.Math.Path.{refl}
use Rattle.std.proofs.Common.{sym, arith}
use Rattle.std.proofs.Math.Bool.{true, false}
use mathlib.Core.List.{List, [], ◌∷◌, ◌++◌, append-nil, append_assoc}
use Rattle.money.specs.Range.{of_bits, bits_of}
use Rattle.refusal.specs.Choice.{pick}
use Rattle.sheet.specs.declared.Pen.{Pen}
use Rattle.sheet.specs.Sheet.{Wrote}
use Rattle.sheet.specs.SheetLaws.{next, retext, none, kept}
use Rattle.wire.specs.Field.{bytes_of, field_of}
use Rattle.codec.specs.Codec.{Codec, column, ◌then◌, via, given, all_out, AllFit, rows, led}
use Rattle.codec.specs.Columns.{whole, signed, flag, one_if}

-- x was written by the codec a
pub record Puts {A : Type 0} (ink : Bool) (a : Codec A) (x : A) (l : List ℕ) (p : Pen) (m : List ℕ) (q : Pen) : Type 0 where
  pub wrote : Wrote ink (a.out x) l p m q
  pub fits : a.Fits x

pub puts_kept : {A : Type 0} {ink : Bool} {a : Codec A} {x : A} {l m : List ℕ} {p q : Pen} → Puts ink a x l p m q → length m ≡ length l
puts_kept g = kept g.wrote

-- x has the number w in each column of its type
pub record Held {A : Type 0} (column : ℕ → Codec A) (x : A) (w : ℕ) : Type 0 where
  pub out : (tag : ℕ) → (column tag).out x ≡ field_of tag (bytes_of 8 w)
  pub fits : (tag : ℕ) → (column tag).Fits x

pub puts_held : {A : Type 0} {column : ℕ → Codec A} {x : A} {w : ℕ} {ink : Bool} {l m : List ℕ} {p q : Pen} (tag : ℕ) → Held column x w → Wrote ink (field_of tag (bytes_of 8 w)) l p m q → Puts ink (column tag) x l p m q
puts_held tag h w = record { wrote = retext w (sym (h.out tag)); fits = h.fits tag }

pub held_column : (top : ℕ) {v : ℕ} → v ≤ top → v < 2 ^ 64 → Held (λ tag. column tag top) v v
unfolding column
held_column top h k = record { out = λ tag. refl; fits = λ tag. (h, k) }

pub held_signed : {z : ℤ} {w : ℕ} → w ≡ bits_of z → bits_of z < 2 ^ 64 → of_bits (bits_of z) ≡ z → Held signed z w
unfolding signed via column
held_signed e h i = record { out = λ tag. rw e refl; fits = λ tag. ((omega (arith, h), h), i) }

pub held_flag : (b : Bool) → Held flag b (one_if b)
unfolding flag via column
held_flag true = record { out = λ tag. refl; fits = λ tag. ((omega arith, omega arith), refl) }
held_flag false = record { out = λ tag. refl; fits = λ tag. ((omega arith, omega arith), refl) }

-- ── Columns ───────────────────────────────────────────────────────
module _ {ink : Bool} {l m : List ℕ} {p q : Pen} (tag : ℕ) where
  -- a signed argument is known by its bits
  pub as_signed : {z : ℤ} → of_bits (bits_of z) ≡ z → Puts ink (signed tag) (of_bits (bits_of z)) l p m q → Puts ink (signed tag) z l p m q
  as_signed e g = rw e at g

-- ── One after the other ───────────────────────────────────────────
module _ {A B : Type 0} {ink : Bool} where
  pub puts_then : {a : Codec A} {b : Codec B} {x : A} {y : B} {l m n : List ℕ} {p q r : Pen} → Puts ink a x l p m q → Puts ink b y m q n r → Puts ink (a then b) (x, y) l p n r
  unfolding ◌then◌
  puts_then g h = record { wrote = next g.wrote h.wrote; fits = (g.fits, h.fits) }

  pub puts_via : (f : A → B) (g : B → A) {a : Codec A} (h : (x : A) → a.Fits x → g (f x) ≡ x) {y : B} {l m : List ℕ} {p q : Pen} → f (g y) ≡ y → Puts ink a (g y) l p m q → Puts ink (via f g a h) y l p m q
  unfolding via
  puts_via f g h e w = record { wrote = w.wrote; fits = (w.fits, e) }

-- ── What only some editions have ──────────────────────────────────
module _ {A : Type 0} {ink : Bool} (t : Bool) (d : A) (a : Codec A) {l : List ℕ} {p : Pen} where
  pub puts_given : {x : A} {m : List ℕ} {q : Pen} → t ≡ true → Puts ink a x l p m q → Puts ink (given t d a) x l p m q
  unfolding given pick
  puts_given e g = rw e (record { wrote = g.wrote; fits = g.fits })

  pub puts_lacking : {x : A} → t ≡ false → x ≡ d → Puts ink (given t d a) x l p l p
  unfolding given pick
  puts_lacking e h = rw e (record { wrote = none ink l p; fits = h })

-- ── The key first, and the rest by it ─────────────────────────────
pub puts_led : {A : Type 0} {ink : Bool} (tag : ℕ) (known : ℕ → Bool) (key : A → ℕ) (c : ℕ → Codec A) (h : (e : ℕ) (x : A) → (c e).Fits x → key x ≡ e) {x : A} {l m n : List ℕ} {p q r : Pen} → known (key x) ≡ true → Puts ink (whole tag) (key x) l p m q → Puts ink (c (key x)) x m q n r
    → Puts ink (led tag known key c h) x l p n r
unfolding led column
puts_led tag known key c h k g w = record { wrote = next g.wrote w.wrote; fits = record { small = g.fits.1; is = k; fits = w.fits } }

-- ── The rows: a loop that has written the list t ──────────────────
pub record Listing {E : Type 0} (a : Codec E) (ink : Bool) (t : List E) (l : List ℕ) (p : Pen) (m : List ℕ) (q : Pen) : Type 0 where
  pub wrote : Wrote ink (all_out a t) l p m q
  pub fit : AllFit a t

module _ {E : Type 0} (a : Codec E) (ink : Bool) (l : List ℕ) (p : Pen) where
  out_last : (t : List E) (x : E) → all_out a (t ++ (x ∷ [])) ≡ all_out a t ++ a.out x
  unfolding all_out
  out_last [] x = append-nil (a.out x)
  out_last (y ∷ t) x = rw (out_last t x) (sym (append_assoc (a.out y) (all_out a t) (a.out x)))

  fit_last : (t : List E) (x : E) → AllFit a t → a.Fits x → AllFit a (t ++ (x ∷ []))
  unfolding AllFit
  fit_last [] x f h = (h, f)
  fit_last (y ∷ t) x f h = (f.0, fit_last t x f.1 h)

  pub list_start : Listing a ink [] l p l p
  unfolding all_out AllFit
  list_start = record { wrote = none ink l p; fit = record {} }

  pub list_turn : {t : List E} {x : E} {m n : List ℕ} {q r : Pen} → Listing a ink t l p m q → Puts ink a x m q n r → Listing a ink (t ++ (x ∷ [])) l p n r
  list_turn {t} {x} g w = record { wrote = retext (next g.wrote w.wrote) (sym (out_last t x)); fit = fit_last t x g.fit w.fits }

-- and after their number they are the table
pub list_done : {E : Type 0} {a : Codec E} {ink : Bool} {t : List E} {l m o : List ℕ} {p q r : Pen} {n : ℕ} (tag most : ℕ) → length t ≡ n → n ≤ most → Puts ink (whole tag) n l p m q → Listing a ink t m q o r → Puts ink (rows tag most a) t l p o r
unfolding rows column
list_done {E} {a} {ink} {t} {l} {m} {o} {p} {q} {r} {n} tag most e h w g =
    let v : Puts ink (whole tag) (length t) l p m q = rw (← e) at w in
    record { wrote = next v.wrote g.wrote; fits = ((omega (arith, e, h), v.fits.1), g.fit) }
