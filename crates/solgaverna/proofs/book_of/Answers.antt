use Rattle.corollary.proofs.Replayed.{replay_shelved, replay_sound}
use Rattle.solgaverna.proofs.book_of.Goals as goal

pub returns-then-left-eq0-clause-shelved : goal.returns-then-left-eq0-clause-shelved
returns-then-left-eq0-clause-shelved c = replay_shelved _ _ c.replay-left.ensures

pub returns-then-left-eq0-clause-tested : goal.returns-then-left-eq0-clause-tested
returns-then-left-eq0-clause-tested c = replay_sound _ _ c.replay-left.ensures
