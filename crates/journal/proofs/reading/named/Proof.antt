use mathlib.Core.Path.{◌≡◌, ap, ◌∙◌}
use Prim.Native.Nat.{ℕ, ◌<◌, ◌^◌}
use native.Mathlib.Omega.{arith}
use lib.IntN.{ℤ}
use lib.ListN.{get_or}
use borrow.Author.Rules.{rules}
use Rattle.refusal.specs.Choice.{pick}
use Rattle.money.specs.Range.{of_bits, bits_of}
use Rattle.money.specs.Facts.{bits_of_bits}
use Rattle.journal.specs.Table.{named, from_numbers, top_of}
use Rattle.journal.proofs.reading.named.Statement.{statement}
use Rattle.journal.proofs.reading.named.Tie as tie

-- an amount that a call gave, read back from its bits
through : {z : ℤ} {n : ℕ} → z ≡ of_bits n → n < 2 ^ 64 → of_bits (bits_of z) ≡ of_bits n
through e h = ap (λ (x : ℤ). of_bits (bits_of x)) e ∙ ap of_bits (bits_of_bits _ h)

returns : tie.Need-returns
unfolding named top_of pick
returns c =
    let s = c.before.before in
    let v = s.args.v in
    let a : get_or v 0x05 0 < 2 ^ 64 = omega (arith, s.requires 0x05) in
    let b : get_or v 0x0F 0 < 2 ^ 64 = omega (arith, s.requires 0x0F) in
    ap (λ (x : ℤ). from_numbers x (of_bits (bits_of c.of_bits-2.result)) v) (through c.of_bits.ensures a)
    ∙ ap (λ (x : ℤ). from_numbers (of_bits (get_or v 0x05 0)) x v) (through c.of_bits-2.ensures b)

pub named_spec : {M : Type 1} → statement M
unfolding top_of pick
named_spec =
    tie.close
    (tie.spec (λ c. search rules) (λ c. search rules) (λ c. search rules) (λ c. search rules) (λ c. search rules) (λ c κs. search rules) (λ c. search rules) (λ c. omega (arith, c.requires 0x06)) (λ c. search rules) (λ c. search rules) (λ c. search rules) (λ c. omega (arith, c.requires 0x09)) (λ c. search rules) (λ c. omega (arith, c.requires 0x0A)) (λ c. search rules) (λ c. omega (arith, c.requires 0x0B)) (λ c. search rules) (λ c. search rules) (λ c. search rules) (λ c. omega (arith, c.requires 0x0E)) (λ c. search rules) (λ c κs. search rules) (λ c. search rules) (λ c. search rules) (λ c. search rules) returns)
