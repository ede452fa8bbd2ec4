use Rattle.snapshot.specs.ReadSound.{fresh_sound}
use Rattle.loading.proofs.none.Goals as goal

pub returns : goal.returns
returns c = rw c.of_edition-book.ensures fresh_sound
