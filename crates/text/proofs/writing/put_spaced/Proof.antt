use Rattle.sheet.specs.SheetLaws.{next}
use borrow.Author.Rules.{rules}
use Rattle.text.proofs.writing.put_spaced.Statement.{statement}
use Rattle.text.proofs.writing.put_spaced.Tie as tie

returns : tie.Need-returns
returns c = next c.put-put.ensures c.put_numeral.ensures

pub put_spaced_spec : {M : Type 1} → statement M
put_spaced_spec =
    tie.close (tie.spec (λ c κs. search rules) (λ c κs. search rules) (λ c. search rules) returns)
