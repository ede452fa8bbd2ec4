use Rattle.std.proofs.Common.{true}
use Rattle.table.specs.Test.{row_test}
use Rattle.table.specs.All.{Checked}
use Rattle.negotiation.specs.Rounds.{no_round, round_sound, round_zero}
use Rattle.negotiation.proofs.Negotiation.sound.Given as goal

abbrev pub invariant-loop-i : goal.invariant-loop-i
invariant-loop-i l = Checked 16 (row_test round_sound round_zero no_round l.fn.self.len l.fn.self.rounds) l.i true
