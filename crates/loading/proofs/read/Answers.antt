use Rattle.snapshot.specs.ReadSound.{reading_sound}
use Rattle.loading.proofs.read.Goals as goal

pub returns : goal.returns
returns c = rw c.read-l.ensures (reading_sound c.args.s.now)
