use Rattle.corollary.proofs.Replayed.{replay_shelved, replay_sound}
use Rattle.ask.proofs.answer_from.Goals as goal

pub serve-requires : goal.serve-requires
serve-requires g c = record {
  shelved = replay_shelved _ _ c.replay-outcome.ensures;
  tested = replay_sound _ _ c.replay-outcome.ensures;
}
