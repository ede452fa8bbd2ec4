use Rattle.codec.specs.Cursors.{Takes, takes_then, takes_via}
use Rattle.snapshot.specs.Layout.{negotiation, negotiation_from, negotiation_parts}
use Rattle.snapshot.specs.Rounds.{laid_rounds_lem}
use Rattle.snapshot.proofs.reading.read_negotiation.Goals as goal

pub returns : goal.returns
unfolding negotiation
returns c =
    let r = c.read_rounds-t.ensures in
    let x = c.next-deadline.result.x in
    let y = c.next-outcome.result.x in
    let t : Takes c.args.s.now c.args.c (negotiation c.args.edition) c.read_rounds-t.result.c (negotiation_from (x, (y, r.all))) = takes_via negotiation_from negotiation_parts _ (takes_then c.next-deadline.ensures.takes (takes_then c.next-outcome.ensures.takes r.takes)) in
    rw (laid_rounds_lem x y r.all r.is) at t
