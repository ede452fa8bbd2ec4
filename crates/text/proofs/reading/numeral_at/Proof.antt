use mathlib.Core.Path.{◌≡◌, sym, ap, ◌∙◌}
use mathlib.Core.List.{List}
use Prim.Native.Nat.{ℕ, ◌+◌, ◌-◌, ◌<◌}
use native.Mathlib.Omega.{arith}
use lib.ListN.{length, get_or, drop, length-drop}
use lib.Seq.{drop-drop}
use borrow.Author.Rules.{rules}
use borrow.Author.Tests.{not-true, not-false, ltb-true}
use Rattle.wire.specs.FieldLaws.{and_right}
use Rattle.text.specs.Reading.{numeral, natural_in, negated, numeral_in}
use Rattle.text.specs.ReadingLaws.{there, first-of, plain_number, positive_number, negative_number, no_negative, negative, natural_size}
use Rattle.text.specs.declared.reading.Numeral.{Numeral}
use Rattle.text.proofs.reading.numeral_at.Statement.{statement}
use Rattle.text.proofs.reading.numeral_at.Tie as tie

returns : tie.Need-returns-then-not-signed
returns c =
    let s = c.before.before.before.before.before in
    plain_number s.args.f _ (sym c.signed.ensures ∙ not-true _ c.if-not-signed.true-raw)
    (c.natural.ensures ∙ ap (λ (n : ℕ). natural_in n (drop s.args.at s.args.s.now)) c.top.ensures)

returns-2 : tie.Need-returns-then-byte-ne45
returns-2 c =
    let s = c.before.before.before.before.before.before in
    positive_number s.args.f _ (sym c.signed.ensures ∙ not-false _ c.if-not-signed.false-raw)
    (λ e. c.if-byte-ne45.true (c.byte.ensures ∙ sym (first-of s.args.s.now s.args.at) ∙ e)) c.natural-then-byte-ne45.ensures

-- past a minus
minus : (c : tie.Else-byte-ne45) → get_or c.args.s.now c.args.at 0 ≡ 45
minus c = sym c.byte.ensures ∙ c.if-byte-ne45.false

room : (c : tie.Else-byte-ne45) → c.args.at < length c.args.s.now
room c = there c.args.s.now c.args.at (minus c) (omega arith)

past : (c : tie.After-natural-x) {r : Numeral} → r ≡ negated c.natural-x.result → r ≡ negated (natural_in 9223372036854775808 (drop 1 (drop c.args.at c.args.s.now)))
past c e =
    let s = c.before.before.before.before.before.before in
    e ∙ ap negated c.natural-x.ensures ∙ ap (λ (l : List ℕ). negated (natural_in 9223372036854775808 l)) (sym (drop-drop 1 s.args.at s.args.s.now))

whole : (c : tie.After-natural-x) {r : Numeral} → r ≡ negated c.natural-x.result → r ≡ numeral_in c.args.f (drop c.args.at c.args.s.now)
whole c e =
    let s = c.before.before.before.before.before.before in
    negative_number s.args.f (drop s.args.at s.args.s.now) (sym c.signed.ensures ∙ not-false _ c.if-not-signed.false-raw)
    (first-of s.args.s.now s.args.at ∙ minus c.before) (past c e)

returns-3 : tie.Need-returns-then-not-x
returns-3 c = let d = c.before.before.before.before in c.none.ensures ∙ whole c.before.before.before.before (no_negative d.natural-x.result (not-true _ c.if-not-x.true-raw))

size_fits : (c : tie.After-natural-x) → c.natural-x.result.size < length c.args.s.now
size_fits c =
    let s = c.before.before.before.before.before.before in
    omega (arith, ap (λ (x : Numeral). x.size) c.natural-x.ensures, natural_size 9223372036854775808 (drop (s.args.at + 1) s.args.s.now), length-drop (s.args.at + 1) s.args.s.now, room c.before)

returns-4 : tie.Need-returns
returns-4 c =
    let d = c.before.before.before.before.before in
    let x = d.natural-x.result in
    let g = not-false _ c.if-not-x.false-raw in
    let p : 0 < x.value = ltb-true 0 x.value (and_right x.ok _ g) in
    let e : 18446744073709551615 - x.value + 1 ≡ 18446744073709551616 - x.value = omega arith in
    whole c.before.before.before.before.before (ap (λ (n : ℕ). numeral n (x.size + 1)) e ∙ negative x g)

pub numeral_at_spec : {M : Type 1} → statement M
numeral_at_spec =
    tie.close
    (tie.spec (λ c κs. search rules) (λ c κs. search rules) (λ c κs. search rules) returns (λ c κs. search rules) (λ c κs. search rules) returns-2 (λ c. omega (arith, room c)) (λ c κs. omega (arith, room c)) (λ c κs. search rules) returns-3 (λ c. search rules) (λ c. omega (arith, ltb-true 0 c.natural-x.result.value (and_right c.natural-x.result.ok _ (not-false _ c.if-not-x.false-raw)))) (λ c. omega (arith, size_fits c.before.before.before.before.before)) returns-4)
