use Rattle.std.proofs.Common.{◌∙◌, ap, sym, ℕ, Option, rules}
use Rattle.refusal.specs.Refusal.{invalid_input}
use Rattle.lists.specs.declared.Wanted.{Wanted}
use Rattle.solgaverna.specs.Answers.{offers_for}
use Rattle.solgaverna.specs.AnswerLaws.{code_err, code_bad, book_good, counts}
use Rattle.solgaverna.proofs.offers.Goals as goal

pub returns-in_err-book : goal.returns-in_err-book
returns-in_err-book c = code_bad _ _ _ _ c.in_err-book.ensures.left.0 c.in_err-book.ensures.left.1 (search rules)

pub returns-in_default : goal.returns-in_default
unfolding offers_for
returns-in_default c =
    let k = c.in_ok-book.ensures.left in
    let l = c.args.out.now in
    book_good _ _ _ k.0 k.1 (ap (λ (n : ℕ). (n, l)) (code_err invalid_input) ∙ ap (λ (z : Option Wanted). offers_for z l c.in_ok-book.book) (sym c.in_default.is ∙ c.asked.ensures))

pub returns : goal.returns
unfolding offers_for
returns c =
    let k = c.in_ok-book.ensures.left in
    let l = c.args.out.now in
    book_good _ _ _ k.0 k.1 (counts c.list.result c.list.ensures ∙ ap (λ (z : Option Wanted). offers_for z l c.in_ok-book.book) (sym c.in-Some.is ∙ c.asked.ensures))
