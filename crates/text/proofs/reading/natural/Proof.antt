use mathlib.Core.Path.{◌≡◌, sym, ap, ◌∙◌}
use mathlib.Core.Bool.{true}
use Prim.Native.Nat.{ℕ, ◌+◌, ◌-◌, ◌<◌}
use native.Mathlib.Omega.{arith}
use native.Mathlib.Nat.{add-zero}
use lib.ListN.{length, get_or, drop, length-drop}
use lib.Seq.{get_or-drop}
use borrow.Author.Rules.{rules}
use borrow.Author.Tests.{not-true, not-false}
use Rattle.text.specs.Reading.{is_digit, checked}
use Rattle.text.specs.ReadingLaws.{Run, run_none, run_on, run_done, run_large, digit_low, digit_high, digit_there}
use Rattle.text.proofs.reading.natural.Statement.{statement}
use Rattle.text.proofs.reading.natural.Tie as tie

abbrev invariant-loop : tie.invariant-loop-at
invariant-loop s at top v₀ n₀ v n = Run (drop at s) n v

abbrev decreases-loop : tie.decreases-loop-at
decreases-loop s at top v₀ n₀ v n = length s - (at + n)

-- the byte at hand, and whether it is a digit
hand : (c : tie.After-byte-b invariant-loop decreases-loop) → get_or (drop c.args.at c.args.s.now) c.loop-at.n 0 ≡ c.byte-b.result
hand c = get_or-drop c.args.at c.args.s.now c.loop-at.n 0 ∙ sym c.byte-b.ensures

is_digit_lem : (c : tie.Else-not-digit invariant-loop decreases-loop) → is_digit c.byte-b.result ≡ true
is_digit_lem c = sym c.digit.ensures ∙ not-false _ c.if-not-digit.false-raw

digit-here : (c : tie.Else-not-digit invariant-loop decreases-loop) → is_digit (get_or (drop c.args.at c.args.s.now) c.loop-at.n 0) ≡ true
digit-here c = ap is_digit (hand c.before.before) ∙ is_digit_lem c

returns : tie.Need-returns-then-not-digit invariant-loop decreases-loop
returns c =
    let b = c.before.before.before.before in
    let s = b.before.before.before in
    let f = get_or-drop s.args.at s.args.s.now 0 0 ∙ ap (λ (k : ℕ). get_or s.args.s.now k 0) (add-zero s.args.at) ∙ sym c.byte.ensures in
    c.check.ensures ∙ ap (λ (x : ℕ). checked s.args.top b.loop-at.n x b.loop-at.v) (sym f)
    ∙ run_done s.args.top b.loop-at.invariant (ap is_digit (hand c.before.before.before.before) ∙ sym c.digit.ensures ∙ not-true _ c.if-not-digit.true-raw)

returns-2 : tie.Need-returns-then-d-v invariant-loop decreases-loop
returns-2 c =
    let d = c.before.before in
    let b = d.before.before in
    let s = b.before.before.before in
    c.none.ensures ∙ run_large s.args.top b.loop-at.invariant (digit-here c.before.before) (rw (hand c.before.before.before.before) (omega (arith, s.ranges.top, c.if-d-v.true, digit_low b.byte-b.result (is_digit_lem c.before.before), digit_high b.byte-b.result (is_digit_lem c.before.before))))

inside : (c : tie.Else-not-digit invariant-loop decreases-loop) → c.args.at + c.loop-at.n < length c.args.s.now
inside c =
    let s = c.before.before.before.before.before in
    omega (arith, digit_there (drop s.args.at s.args.s.now) c.loop-at.n (digit-here c), length-drop s.args.at s.args.s.now, s.requires)

loop-again : tie.Need-loop-at-preserved invariant-loop decreases-loop
loop-again c =
    let d = c.before in
    let b = d.before.before in
    rw (hand c.before.before.before) at (run_on b.loop-at.invariant (digit-here c.before))

pub natural_spec : {M : Type 1} → statement M
natural_spec =
    tie.close
    (tie.spec invariant-loop decreases-loop (λ c. run_none _) (λ c. omega (arith, c.loop-at.invariant.inside, length-drop c.args.at c.args.s.now, c.requires)) (λ c κs. search rules) (λ c κs. search rules) (λ c κs. search rules) (λ c κs. search rules) returns (λ c. omega (arith, digit_low c.byte-b.result (is_digit_lem c))) (λ c. search rules) (λ c. omega (arith, digit_low c.byte-b.result (is_digit_lem c), digit_high c.byte-b.result (is_digit_lem c))) (λ c κs. search rules) returns-2 (λ c. omega (arith, c.if-d-v.false)) (λ c. omega (arith, c.if-d-v.false, digit_low c.byte-b.result (is_digit_lem c.before), digit_high c.byte-b.result (is_digit_lem c.before))) (λ c. omega (arith, inside c.before)) (λ c. omega (arith, inside c.before)) loop-again)
