use Rattle.std.proofs.Common.{◌∙◌, ap, rules}
use Rattle.lists.specs.Listing.{Reply}
use Rattle.solgaverna.specs.Answers.{four_over}
use Rattle.solgaverna.specs.AnswerLaws.{code_bad, book_good, four_fails}
use Rattle.solgaverna.proofs.totals_over.Goals as goal

pub returns-in_err-book : goal.returns-in_err-book
returns-in_err-book c = code_bad _ _ _ _ c.in_err-book.ensures.left.0 c.in_err-book.ensures.left.1 (search rules)

pub returns-in_err-x : goal.returns-in_err-x
returns-in_err-x c = let k = c.in_ok-book.ensures.left in book_good _ _ _ k.0 k.1 (four_fails _ c.args.out.now c.in_err-x.ensures (search rules))

pub returns : goal.returns
returns c = let k = c.in_ok-book.ensures.left in book_good _ _ _ k.0 k.1 (c.put_four.ensures ∙ ap (λ (z : Reply). four_over z c.args.out.now) c.in_ok-x.ensures)
