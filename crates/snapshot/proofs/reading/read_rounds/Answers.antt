use Rattle.std.proofs.Common.{◌<◌, ap, ◌∙◌, arith}
use Rattle.negotiation.specs.Rounds.{round_slots, no_round}
use Rattle.negotiation.specs.declared.Negotiation.{Negotiation}
use Rattle.offer.specs.Kept.{limit_in_slots}
use Rattle.snapshot.specs.Rounds.{none_padded}
use Rattle.snapshot.specs.Filling.{rounds_start, rounds_turn, rounds_done}
use Rattle.snapshot.proofs.reading.read_rounds.Goals as goal

pub loop-i-init : goal.loop-i-init
loop-i-init c = rounds_start _ _ _ (ap (λ (x : Negotiation). x.rounds) c.none.ensures ∙ none_padded no_round round_slots)

pub bounds-rows-i : goal.bounds-rows-i
bounds-rows-i c = omega (arith, c.loop-i-test.true, c.count-k.ensures.low, c.round_limit-limit.ensures, limit_in_slots c.args.edition)

pub loop-i-preserved : goal.loop-i-preserved
loop-i-preserved c =
    let h : c.loop-i.i < 16 = omega (arith, c.loop-i-test.true, c.count-k.ensures.low, c.round_limit-limit.ensures, limit_in_slots c.args.edition) in
    rounds_turn _ _ _ h c.loop-i.invariant c.read_round-g.ensures

pub returns : goal.returns
returns c = rounds_done (rw c.round_limit-limit.ensures at c.count-k.ensures) (omega arith) c.loop-i.invariant
