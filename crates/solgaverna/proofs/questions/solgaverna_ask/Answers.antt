use Rattle.std.proofs.Common.{◌∙◌, ap, refl, ℕ}
use Rattle.refusal.specs.Refusal.{journal_malformed}
use Rattle.solgaverna.specs.AnswerLaws.{book_bad, book_good, sizes}
use Rattle.solgaverna.proofs.questions.solgaverna_ask.Goals as goal

pub returns-in_default : goal.returns-in_default
returns-in_default c = ap (λ (n : ℕ). (n, c.args.out.now)) c.refused.ensures ∙ book_bad _ _ _ {e = journal_malformed} c.in_default.ensures.left.0 refl

pub returns : goal.returns
returns c = let k = c.in-Ok.ensures.left in book_good _ _ _ k.0 k.1 (sizes c.sized.ensures c.answers_sound-r.ensures)
