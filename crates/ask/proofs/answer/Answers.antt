use Rattle.text.specs.AnswerLaws.{within}
use Rattle.ask.proofs.answer.Goals as goal

pub show-requires : goal.show-requires
show-requires g c = λ k e. (within _ _ c.answers_sound-r.ensures e).0
