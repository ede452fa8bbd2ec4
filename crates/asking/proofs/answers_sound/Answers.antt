use Rattle.std.proofs.Common.{ap, sym, ◌∙◌}
use Rattle.text.specs.Answers.{faulty}
use Rattle.text.specs.AnswerLaws.{at_fault, no_space, in_space}
use Rattle.asking.specs.QuestionLaws.{answers_faulty, answers_whole}
use Rattle.asking.proofs.answers_sound.Goals as goal

pub returns-in-Err : goal.returns-in-Err
returns-in-Err c = let t = c.in-Err.ensures in at_fault t.0.1 (answers_faulty _ _ (sym t.1.0) ∙ ap faulty (sym t.1.1))

pub returns-then-pen : goal.returns-then-pen
returns-then-pen c = let t = c.in-Ok.ensures in no_space t.0 (answers_whole _ _ (sym t.1)) c.if-pen.true

pub returns-in-Ok-tell : goal.returns-in-Ok-tell
returns-in-Ok-tell c = let t = c.in-Ok.ensures in in_space t.0 (answers_whole _ _ (sym t.1)) c.if-pen.false c.in-Ok-tell.ensures.0
