use mathlib.Core.Path.{◌≡◌, sym}
use Prim.Native.Nat.{◌+◌, ◌-◌}
use native.Mathlib.Omega.{arith}
use borrow.Author.Rules.{rules}
use borrow.Author.Tests.{lt-ltb, le-ltb}
use Rattle.refusal.specs.ChoiceLaws.{pick_on, pick_off}
use Rattle.sheet.specs.SheetLaws.{next, retext}
use Rattle.text.specs.Line.{signed_of}
use Rattle.text.proofs.writing.put_signed.Statement.{statement}
use Rattle.text.proofs.writing.put_signed.Tie as tie

returns : tie.Need-returns-then-x-lt9223372036854775808
unfolding signed_of
returns c = retext c.put_decimal.ensures (sym (pick_on _ _ (lt-ltb _ _ c.if-x-lt9223372036854775808.true)))

returns-2 : tie.Need-returns
unfolding signed_of
returns-2 c =
    let x = c.args.x in
    let h = c.if-x-lt9223372036854775808.false in
    let f = c.ranges.x in
    let e : 18446744073709551615 - x + 1 ≡ 18446744073709551616 - x = omega arith in
    retext (next c.put-put.ensures (rw e at c.put_decimal-2.ensures)) (sym (pick_off _ _ (le-ltb _ _ h)))

pub put_signed_spec : {M : Type 1} → statement M
put_signed_spec =
    tie.close
    (tie.spec (λ c κs. search rules) (λ c. search rules) returns (λ c κs. search rules) (λ c. search rules) (λ c. search rules) (λ c κs. search rules) (λ c. search rules) returns-2)
