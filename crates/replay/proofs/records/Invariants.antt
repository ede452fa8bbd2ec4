use Rattle.std.proofs.Common.{◌-◌, length}
use Rattle.book.specs.Stored.{model_of}
use Rattle.replay.specs.Replay.{replay_from}
use Rattle.replay.specs.Going.{Going}
use Rattle.replay.proofs.records.Given as goal

abbrev pub invariant-loop-c : goal.invariant-loop-c
invariant-loop-c l = Going l.ink l.s (replay_from l.s l.fn.first (model_of l.fn.book)) l.initial.out l.fn.start l.out l.at l.k l.book l.pen

abbrev pub decreases-loop-c : goal.decreases-loop-c
decreases-loop-c l = length l.s - l.at
