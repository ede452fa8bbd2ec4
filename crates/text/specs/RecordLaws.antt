-- A record or the header in an array that has room for it. Assumes nothing.
use Rattle.std.specs.Prelude.{◌≡◌, refl, ℕ, ◌+◌, ◌≤◌, drop, replicate, false, eqb, Result, Ok, Err}
use Rattle.std.proofs.Common.{sym, ◌∙◌, arith, le-leb}
use Rattle.std.proofs.Math.Path.{ap}
use mathlib.Core.List.{List}
use Rattle.std.proofs.Math.ListN.{length, take}
use Rattle.std.proofs.Math.Seq.{take-append_seam}
use Rattle.refusal.specs.Choice.{pick}
use Rattle.refusal.specs.ChoiceLaws.{pick_on}
use Rattle.wire.specs.Field.{bytes_of, head_of, field_of}
use Rattle.refusal.specs.Placed.{placed, laid}
use Rattle.refusal.specs.PlacedLaws.{laid_in, length-placed}
use Rattle.journal.specs.Answers.{written}
use Rattle.journal.specs.TableLaws.{few}
use Rattle.journal.specs.Format.{header_of, record_of, writing}
use Rattle.journal.specs.WriteLaws.{length_record}
use Rattle.refusal.specs.declared.Refusal.{Refusal}
use Rattle.refusal.specs.Refusal.{number}
use Rattle.refusal.specs.RefusalLaws.{refusal_not-0}

pub header_laid : (e : ℕ) → laid 0 (header_of e) (replicate 5 0) ≡ header_of e
unfolding laid placed header_of field_of head_of bytes_of pick
header_laid e = refl

pub record_room : (e t : ℕ) (xs : List ℕ) → length (record_of e t xs) ≤ 102
record_room e t xs = omega (arith, length_record e t xs, few e t)

module _ (w l : List ℕ) (h : length w ≤ length l) where
  has_room : writing 0 w l ≡ (0, length w)
  unfolding writing
  has_room = pick_on _ _ (le-leb (0 + length w) (length l) (omega arith))

  pub not_short : {e : Result ℕ Refusal} {r : Refusal} → written e ≡ writing 0 w l → e ≡ Err r → ⊥
  not_short {r = r} k d =
      let z : number r ≡ 0 = ap (λ (p : ℕ × ℕ). p.0) (ap written (sym d) ∙ k ∙ has_room) in
      let f : eqb 0 0 ≡ false = rw z at (refusal_not-0 r) in cc

  pub count-is : {e : Result ℕ Refusal} {n : ℕ} → written e ≡ writing 0 w l → e ≡ Ok n → n ≡ length w
  count-is k d = ap (λ (p : ℕ × ℕ). p.1) (ap written (sym d) ∙ k ∙ has_room)

  pub taken : {m : List ℕ} {n : ℕ} → m ≡ laid 0 w l → n ≡ length w → (n ≤ length m) × (take n m ≡ w)
  unfolding placed
  taken {m} {n} e d =
      let p : m ≡ placed 0 w l = e ∙ laid_in 0 w l (omega arith) in
      (omega (arith, ap length p, length-placed 0 w l (omega arith)), ap (λ (x : List ℕ). take n x) p ∙ ap (λ (k : ℕ). take k (placed 0 w l)) d ∙ take-append_seam w (drop (0 + length w) l))
