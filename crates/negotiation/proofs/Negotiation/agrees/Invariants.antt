-- the originator's latest round is among those still to come
use Rattle.std.proofs.Common.{◌≡◌}
use Rattle.negotiation.specs.Rounds.{latest_below}
use Rattle.negotiation.proofs.Negotiation.agrees.Given as goal

abbrev pub invariant-loop-i : goal.invariant-loop-i
invariant-loop-i l = latest_below l.fn.self.rounds l.fn.self.len ≡ latest_below l.fn.self.rounds l.i
