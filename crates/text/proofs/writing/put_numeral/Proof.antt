use mathlib.Core.Path.{sym, ◌∙◌}
use borrow.Author.Rules.{rules}
use Rattle.refusal.specs.ChoiceLaws.{pick_on, pick_off}
use Rattle.sheet.specs.SheetLaws.{retext}
use Rattle.text.specs.Line.{numeral_of}
use Rattle.text.proofs.writing.put_numeral.Statement.{statement}
use Rattle.text.proofs.writing.put_numeral.Tie as tie

returns : tie.Need-returns-then-signed
unfolding numeral_of
returns c = retext c.put_signed.ensures (sym (pick_on _ _ (sym c.signed.ensures ∙ c.if-signed.true)))

returns-2 : tie.Need-returns
unfolding numeral_of
returns-2 c = retext c.put_decimal.ensures (sym (pick_off _ _ (sym c.signed.ensures ∙ c.if-signed.false)))

pub put_numeral_spec : {M : Type 1} → statement M
put_numeral_spec =
    tie.close
    (tie.spec (λ c κs. search rules) (λ c κs. search rules) (λ c. search rules) returns (λ c κs. search rules) (λ c. search rules) returns-2)
