use Rattle.std.proofs.Common.{rules, ◌∙◌, get_or, eqb}
use Rattle.table.specs.Test.{all_below}
use Rattle.negotiation.specs.Rounds.{no_round, round_zero, negotiation_zero}
use Rattle.negotiation.specs.Laws.{all_empty, and_last, no_amount}
use Rattle.negotiation.proofs.Negotiation.zero.Goals as goal

pub returns-clause-tested : goal.returns-clause-tested
unfolding negotiation_zero round_zero
returns-clause-tested c =
    let n = c.args.self in
    let x = rw c.none.ensures at c.eq.ensures in
    rw (all_empty _ round_zero no_round (λ r. no_amount r.amount _ _ _ _) 16 n.rounds (search rules)) at x
    ∙ and_last (all_below 16 (λ i. round_zero (get_or n.rounds i no_round))) (eqb n.deadline 0) (eqb n.len 0) (eqb n.outcome 0)
