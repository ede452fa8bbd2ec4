use Rattle.sheet.specs.SheetLaws.{next}
use Rattle.asking.specs.Questions.{negotiation_text}
use Rattle.asking.proofs.put_negotiation.Goals as goal

pub returns : goal.returns
unfolding negotiation_text
returns c = next c.put_row-p.ensures c.put_rounds.ensures
