use Rattle.sheet.specs.SheetLaws.{next}
use Rattle.replay.specs.Text.{book_text}
use borrow.Author.Rules.{rules}
use Rattle.replay.proofs.put_book.Statement.{statement}
use Rattle.replay.proofs.put_book.Tie as tie

returns : tie.Need-returns
unfolding book_text
returns c = next c.put_accounts-p.ensures c.put_totals.ensures

pub put_book_spec : {M : Type 1} → statement M
put_book_spec = tie.close (tie.spec (λ c κs. search rules) (λ c κs. search rules) (λ c. search rules) returns)
