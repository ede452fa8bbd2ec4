use Rattle.text.specs.AnswerLaws.{within}
use Rattle.scribe.proofs.main.Goals as goal

pub show-requires : goal.show-requires
show-requires c = λ k e. (within _ _ c.to_text-r.ensures e).0

pub show-requires-2 : goal.show-requires-2
show-requires-2 c = λ k e. (within _ _ c.to_journal-r.ensures e).0
