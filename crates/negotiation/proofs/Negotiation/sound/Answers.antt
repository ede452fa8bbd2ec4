use Rattle.std.proofs.Common.{sym, ◌∙◌}
use Rattle.table.specs.Test.{row_test}
use Rattle.table.proofs.TestLaws.{by_use_lem}
use Rattle.negotiation.specs.Rounds.{no_round, round_sound, round_zero, negotiation_sound}
use Rattle.negotiation.specs.Laws.{misfit}
use Rattle.negotiation.proofs.Negotiation.sound.Goals as goal

pub returns-then-not-fits-clause-tested : goal.returns-then-not-fits-clause-tested
unfolding negotiation_sound
returns-then-not-fits-clause-tested c =
    misfit (row_test round_sound round_zero no_round c.args.self.len c.args.self.rounds) _ _ c.loop-i-test.true
    (by_use_lem c.args.self.len c.loop-i.i _ _ ∙ sym c.fits.ensures ∙ c.if-not-fits.true)
