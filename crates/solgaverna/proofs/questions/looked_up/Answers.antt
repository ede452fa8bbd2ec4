use Rattle.std.proofs.Common.{rules}
use Rattle.solgaverna.specs.AnswerLaws.{code_bad, book_good, counts}
use Rattle.solgaverna.proofs.questions.looked_up.Goals as goal

pub returns-in_err-book : goal.returns-in_err-book
returns-in_err-book c = code_bad _ _ _ _ c.in_err-book.ensures.left.0 c.in_err-book.ensures.left.1 (search rules)

pub returns : goal.returns
returns c = let k = c.in_ok-book.ensures.left in book_good _ _ _ k.0 k.1 (counts c.answers.result c.answers.ensures)
