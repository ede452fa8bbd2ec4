-- How many bytes a value takes at most, by its codec. Assumes nothing.
use Rattle.std.specs.Prelude.{◌≡◌, Bool, true, false, ℕ, ◌+◌, ◌*◌, ◌-◌, ◌^◌, ◌≤◌, length}
use mathlib.Core.List.{List, [], ◌∷◌}
use native.Mathlib.Omega.{arith}
use Rattle.std.proofs.Math.Nat.{mul-le-mul_right}
use Rattle.std.proofs.Math.ListN.{length-append}
use Rattle.refusal.specs.Choice.{pick}
use Rattle.wire.specs.Field.{bytes_of, field_of}
use Rattle.wire.specs.FieldLaws.{length_field}
use Rattle.codec.specs.Codec.{Codec, column, ◌then◌, via, given, all_out, AllFit, rows, led}
use Rattle.codec.specs.Columns.{signed, flag}

pub record Weighs {A : Type 0} (a : Codec A) (n : ℕ) : Type 0 where
  pub most : (x : A) → a.Fits x → length (a.out x) ≤ n

pub weighs_column : (tag top : ℕ) → Weighs (column tag top) 11
unfolding column
weighs_column tag top = record { most = λ x f. omega (arith, length_field tag x) }

pub weighs_then : {A B : Type 0} {a : Codec A} {b : Codec B} {n m : ℕ} → Weighs a n → Weighs b m → Weighs (a then b) (n + m)
unfolding ◌then◌
weighs_then {a = a} {b = b} u v = record { most = λ x f. omega (arith, length-append (a.out x.0) (b.out x.1), u.most x.0 f.0, v.most x.1 f.1) }

pub weighs_via : {A B : Type 0} (f : A → B) (g : B → A) {a : Codec A} (h : (x : A) → a.Fits x → g (f x) ≡ x) {n : ℕ} → Weighs a n → Weighs (via f g a h) n
unfolding via
weighs_via f g h u = record { most = λ y k. u.most (g y) k.0 }

pub weighs_given : {A : Type 0} (t : Bool) (d : A) {a : Codec A} {n : ℕ} → Weighs a n → Weighs (given t d a) n
unfolding given pick
weighs_given true d u = record { most = λ x f. u.most x f }
weighs_given false d u = record { most = λ x f. omega arith }

pub weighs_signed : (tag : ℕ) → Weighs (signed tag) 11
unfolding signed
weighs_signed tag = weighs_via _ _ _ (weighs_column tag (2 ^ 64 - 1))

pub weighs_flag : (tag : ℕ) → Weighs (flag tag) 11
unfolding flag
weighs_flag tag = weighs_via _ _ _ (weighs_column tag 1)

module _ {A : Type 0} {a : Codec A} {n : ℕ} (u : Weighs a n) where
  all_weigh : (xs : List A) → AllFit a xs → length (all_out a xs) ≤ length xs * n
  unfolding all_out AllFit
  all_weigh [] f = omega arith
  all_weigh (x ∷ xs) f = omega (arith, length-append (a.out x) (all_out a xs), u.most x f.0, all_weigh xs f.1)

  pub weighs_rows : (tag most : ℕ) → Weighs (rows tag most a) (11 + most * n)
  unfolding rows
  weighs_rows tag most = record {
    most = λ xs f. omega (arith, length-append (field_of tag (bytes_of 8 (length xs))) (all_out a xs), length_field tag (length xs), all_weigh xs f.1, mul-le-mul_right n f.0.0);
  }

-- a codec for each key, none of which takes more
pub weighs_led : {A : Type 0} (tag : ℕ) (known : ℕ → Bool) (key : A → ℕ) (c : ℕ → Codec A) (h : (e : ℕ) (x : A) → (c e).Fits x → key x ≡ e) {n : ℕ} → ((e : ℕ) → Weighs (c e) n) → Weighs (led tag known key c h) (11 + n)
unfolding led
weighs_led tag known key c h u = record { most = λ x f. omega (arith, length-append (field_of tag (bytes_of 8 (key x))) ((c (key x)).out x), length_field tag (key x), (u (key x)).most x f.fits) }

pub weighs_less : {A : Type 0} {a : Codec A} {n m : ℕ} → Weighs a n → n ≤ m → Weighs a m
weighs_less u h = record { most = λ x f. omega (arith, u.most x f, h) }
