use Rattle.std.specs.Prelude.{ℕ, ◌≡◌, ◌<◌, ◌≤◌, ◌^◌, ◌&&◌, ℤ, pos, negsuc, eqb, leb}
use Rattle.std.proofs.Common.{true, rules, arith, sym, ◌∙◌, w64, of_z}
use Rattle.std.specs.Int.Signed.{mag}
use Rattle.std.proofs.lemmas.Bool.{ne_eqb}
use Rattle.std.proofs.lemmas.Bool.Decides.{nat_tests}
use Rattle.money.specs.Range.{in_amount, same_amount, magnitude_of}
use Rattle.money.specs.Facts.{both, back}
use Rattle.installments.specs.Arguments.{falling_ok}
use Rattle.terms.specs.Terms.{price_ok, count_ok}
use Rattle.terms.specs.Schedule.{keeps_ok}
use Rattle.terms.specs.Laws.{price_in, first_le}
use Rattle.terms.proofs.keeps_ok.Goals as goal

-- a price in range, as the lists' code has it
priced : (x : ℤ) (rate count : ℕ) → price_ok x rate ≡ true → count_ok count ≡ true → falling_ok (magnitude_of x) rate count 0 0 ≡ true
priced x rate count h k =
    let a = both (in_amount x && leb 1 rate) (leb rate 10000) h in
    let b = both (in_amount x) (leb 1 rate) a.0 in
    price_in x rate count b.0 (grind (arith, nat_tests)) (grind (arith, nat_tests)) k

-- bits that are a number's
same_bits : (z : ℤ) (n : ℕ) → mag z < 2 ^ 63 → n ≤ 2000000000000 → eqb (of_z w64 z) n ≡ same_amount z (pos n)
same_bits (pos m) n h k = grind (arith, nat_tests)
same_bits (negsuc m) n h k = ne_eqb _ n (λ e. omega arith)

pub first_of-requires : goal.first_of-requires
first_of-requires c =
    let s = c.args.s in
    let m : c.magnitude.result ≡ magnitude_of s.amount = simp (back s.amount (search rules)) at c.magnitude.ensures in
    let h = both _ _ c.if-not-price_valid-kind_listed.false in
    let q : price_ok s.amount s.rate ≡ true = simp (back s.amount (search rules)) at (sym c.price_valid.ensures ∙ h.0) in
    rw m (priced s.amount s.rate s.count q c.requires)

pub overflow_cast-result : goal.overflow_cast-result
overflow_cast-result c =
    let s = c.args.s in
    let m : c.magnitude.result ≡ magnitude_of s.amount = simp (back s.amount (search rules)) at c.magnitude.ensures in
    let h = both _ _ c.if-not-price_valid-kind_listed.false in
    let q : price_ok s.amount s.rate ≡ true = simp (back s.amount (search rules)) at (sym c.price_valid.ensures ∙ h.0) in
    let l = first_le s.kind (magnitude_of s.amount) s.rate s.count (priced s.amount s.rate s.count q c.requires) in
    rw (c.first_of.ensures, m) (record { sfits = omega arith })

pub returns : goal.returns
unfolding keeps_ok
returns c =
    let s = c.args.s in
    let m : c.magnitude.result ≡ magnitude_of s.amount = simp (back s.amount (search rules)) at c.magnitude.ensures in
    let h = both _ _ c.if-not-price_valid-kind_listed.false in
    let q : price_ok s.amount s.rate ≡ true = simp (back s.amount (search rules)) at (sym c.price_valid.ensures ∙ h.0) in
    let l = first_le s.kind (magnitude_of s.amount) s.rate s.count (priced s.amount s.rate s.count q c.requires) in
    rw (q, sym c.kind_listed.ensures ∙ h.1, c.first_of.ensures, m) (same_bits s.installment _ (search rules) l)
