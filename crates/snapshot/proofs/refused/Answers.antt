use Rattle.snapshot.specs.Snapshot.{loaded_as}
use Rattle.snapshot.proofs.refused.Goals as goal

pub returns : goal.returns
unfolding loaded_as
returns c = rw c.of_edition-book.ensures
