use mathlib.Core.Path.{◌≡◌, refl, ap, ◌∙◌}
use mathlib.Core.Bool.{true}
use Rattle.edition.specs.Edition.{first_edition, listed}
use Rattle.book.specs.Shelving.{shelved_stored}
use Rattle.soundness.specs.Sound.{fresh_model_lem}
use Rattle.soundness.specs.Books.{book_sound}
use Rattle.solgaverna.specs.Answers.{line_of}
use Rattle.solgaverna.specs.AnswerLaws.{fault_line_lem, question_line}
use borrow.Author.Rules.{rules}
use Rattle.solgaverna.proofs.questions.solgaverna_faulty_question.Statement.{statement}
use Rattle.solgaverna.proofs.questions.solgaverna_faulty_question.Tie as tie

first-listed : listed first_edition ≡ true
unfolding listed
first-listed = refl

answers-sound-requires : tie.Need-answers_sound-r-requires
answers-sound-requires c κs =
    let s = fresh_model_lem first_edition first-listed in
    (rw c.of_edition-book.ensures (shelved_stored s.fits), rw c.of_edition-book.ensures (book_sound s))

returns : tie.Need-returns
returns c = c.line.ensures ∙ ap line_of c.answers_sound-r.ensures.0 ∙ fault_line_lem _ _ ∙ question_line _ _

pub solgaverna_faulty_question_spec : {M : Type 1} → statement M
solgaverna_faulty_question_spec =
    tie.close
    (tie.spec (λ c κs. search rules) (λ c. search rules) answers-sound-requires (λ c κs. search rules) returns)
