-- The columns: a field of one number, by the type that a book holds it in.
use Rattle.std.specs.Prelude.{◌≡◌, refl, Bool, cond, ℕ, zero, suc, ◌-◌, ◌^◌, ◌≤◌, eqb, ℤ}
use Rattle.std.proofs.Common.{arith}
use Rattle.money.specs.Range.{of_bits, bits_of}
use Rattle.money.specs.Facts.{bits_of_bits}
use Rattle.codec.specs.Codec.{Codec, column, via}

abbrev pub whole : ℕ → Codec ℕ
whole tag = column tag (2 ^ 64 - 1)

abbrev pub half : ℕ → Codec ℕ
half tag = column tag (2 ^ 32 - 1)

-- two's complement
unfoldable pub signed : ℕ → Codec ℤ
unfolding column
signed tag = via of_bits bits_of (whole tag) (λ x f. bits_of_bits x f.1)

-- yes is 1, no is 0
abbrev pub is_one : ℕ → Bool
is_one n = eqb n 1

abbrev pub one_if : Bool → ℕ
one_if b = cond b 1 0

pub flag_back : (n : ℕ) → n ≤ 1 → one_if (is_one n) ≡ n
flag_back zero h = refl
flag_back (suc zero) h = refl
flag_back (suc (suc n)) h = absurd (omega arith)

unfoldable pub flag : ℕ → Codec Bool
unfolding column
flag tag = via is_one one_if (column tag 1) (λ x f. flag_back x f.0)
