use Rattle.std.proofs.Common.{◌≤◌, length, ◌-◌}
use Rattle.text.specs.Telling.{Telling}
use Rattle.text.specs.Reading.{question_at}
use Rattle.book.specs.Stored.{model_of}
use Rattle.asking.specs.Questions.{questions_in, answer_to}
use Rattle.asking.proofs.tell.Given as goal

abbrev pub invariant-loop-at : goal.invariant-loop-at
invariant-loop-at l = record {
  within : l.at ≤ length l.s;
  behind : l.k ≤ l.at;
  telling : Telling l.ink (length l.s) (question_at l.s) (answer_to (model_of l.book)) (questions_in l.s) l.initial.out l.initial.pen l.at l.k l.out l.pen;
}

abbrev pub decreases-loop-at : goal.decreases-loop-at
decreases-loop-at l = length l.s - l.at
