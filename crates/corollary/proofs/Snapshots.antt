-- A book that was read from a snapshot starts a new history: each figure is the snapshot's, and what the accepted commands after it add to it or take from it.
use Rattle.std.specs.Prelude.{◌≡◌, true, List, [], ℕ}
use Rattle.wire.specs.NumberLaws.{Bytes}
use Rattle.command.specs.declared.Command.{Command}
use Rattle.book.specs.Stored.{model_of, book_test}
use Rattle.soundness.specs.Played.{called, accepted_by}
use Rattle.history.specs.Run.{from}
use Rattle.history.specs.Since.{MeetsSince}
use Rattle.history.proofs.Stored.{calls_since}
use Rattle.replay.specs.declared.Outcome.{Outcome}
use Rattle.replay.specs.Replay.{replayed_from}
use Rattle.snapshot.specs.declared.Loaded.{Loaded}
use Rattle.snapshot.specs.Snapshot.{reading}
use Rattle.snapshot.specs.Trips.{Accepted, accepted}
use Rattle.corollary.specs.Journals.{commands_on}
use Rattle.corollary.proofs.Replayed.{from_sound, replay_since}

-- l is what `snapshot::read` answers for the bytes s, and it is no refusal
module _ (s : List ℕ) (k : Bytes s) (l : Loaded) (e : l ≡ reading s) (z : l.number ≡ 0) where
  source : Accepted s l.book
  source = accepted s k l e z

  -- after a journal, by `replay_from`: the commands that it holds for the snapshot's edition
  module _ (j : List ℕ) (r : Outcome) (q : r ≡ replayed_from l.book j) where
    pub snapshot_since : MeetsSince (model_of l.book) (from (model_of l.book) (commands_on l.book.settings.edition j)).history (model_of r.book)
    snapshot_since = replay_since l.book source.typed source.sound j r q

    pub snapshot_sound : book_test r.book ≡ true
    snapshot_sound = from_sound l.book source.typed source.sound j r q

  -- after calls of `Book::apply`, each on the book that the one before gave back
  pub snapshot_calls : (cs : List Command) → MeetsSince (model_of l.book) (accepted_by [] l.book cs) (model_of (called l.book cs))
  snapshot_calls cs = calls_since l.book source.typed source.sound cs
