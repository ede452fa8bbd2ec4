use mathlib.Core.Path.{sym, ap, ◌∙◌}
use Prim.Native.Nat.{◌<◌}
use native.Mathlib.Omega.{arith}
use lib.ListN.{length}
use lib.Seq.{drop-drop}
use borrow.Author.Rules.{rules}
use Rattle.text.specs.Reading.{numeral_in}
use Rattle.text.specs.ReadingLaws.{there, first-of, no_space, after_space}
use Rattle.text.proofs.reading.spaced.Statement.{statement}
use Rattle.text.proofs.reading.spaced.Tie as tie

returns : tie.Need-returns-then-byte-ne32
returns c =
    let s = c.before.before.before.before in
    no_space s.args.f _ (λ e. c.if-byte-ne32.true (c.byte.ensures ∙ sym (first-of s.args.s.now s.args.at) ∙ e)) c.none.ensures

room : (c : tie.Else-byte-ne32) → c.args.at < length c.args.s.now
room c = let s = c.before.before.before in there s.args.s.now s.args.at (sym c.byte.ensures ∙ c.if-byte-ne32.false) (omega arith)

returns-2 : tie.Need-returns
returns-2 c =
    let s = c.before.before.before.before in
    after_space s.args.f _ (first-of s.args.s.now s.args.at ∙ sym c.byte.ensures ∙ c.if-byte-ne32.false)
    (c.numeral_at.ensures ∙ ap (numeral_in s.args.f) (sym (drop-drop 1 s.args.at s.args.s.now)))

pub spaced_spec : {M : Type 1} → statement M
spaced_spec =
    tie.close
    (tie.spec (λ c κs. search rules) (λ c κs. search rules) returns (λ c. omega (arith, room c)) (λ c κs. omega (arith, room c)) returns-2)
