use Rattle.std.proofs.Common.{arith}
use Rattle.lists.specs.Pick.{walk_start, walk_few, walk_on, walk_off}
use Rattle.lists.specs.Listing.{offers_of, taking}
use Rattle.lists.specs.Rows.{none, inside, asked}
use Rattle.lists.proofs.OfferRows.count_of.Goals as goal
use Rattle.lists.proofs.OfferRows.count_of.Goals.{then-takes, else-takes}

pub loop-i-init : goal.loop-i-init
loop-i-init c = walk_start (taking c.args.w) (offers_of c.args.self)

pub overflow_add-n : goal.overflow_add-n
overflow_add-n c = omega (arith, walk_few c.loop-i.invariant, c.in_use-i-end.ensures.few)

pub loop-i-preserved : goal.loop-i-preserved
loop-i-preserved c =
    let u = c.in_use-i-end.ensures in
    let l = c.loop-i in
    let h = c.loop-i-test.true in
    elim c.if-takes.branch [
      | then-takes w ↦ rw w.n-is (walk_on l.invariant none (inside u l.i h) (asked u l.i h c.args.w _ _ c.takes.ensures w.if-takes.true))
      | else-takes w ↦ rw w.n-is (walk_off l.invariant none (inside u l.i h) (asked u l.i h c.args.w _ _ c.takes.ensures w.if-takes.false))
    ]

pub returns-clause-few : goal.returns-clause-few
returns-clause-few c = omega (arith, walk_few c.loop-i.invariant, c.in_use-i-end.ensures.few, c.loop-i.auto.i-end)
