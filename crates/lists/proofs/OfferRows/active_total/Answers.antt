use Rattle.std.proofs.Common.{◌∙◌, arith}
use Rattle.lists.specs.Sum.{sum_start, sum_turn}
use Rattle.lists.specs.Listing.{offers_of}
use Rattle.lists.specs.Active.{active_in}
use Rattle.lists.specs.Rows.{none, inside, active_at, small_amount}
use Rattle.lists.proofs.OfferRows.active_total.Goals as goal

pub loop-i-init : goal.loop-i-init
loop-i-init c = sum_start (active_in c.args.lender) 1000000000000 (offers_of c.args.self)

pub overflow_add-sum : goal.overflow_add-sum
overflow_add-sum c =
    omega (
      arith,
      c.active-sum.ensures,
      small_amount c.in_use-i-end.ensures c.loop-i.i c.loop-i-test.true c.requires c.args.lender,
      c.loop-i.invariant.small,
      c.loop-i-test.true,
      c.in_use-i-end.ensures.few,
    )

pub loop-i-preserved : goal.loop-i-preserved
loop-i-preserved c =
    let u = c.in_use-i-end.ensures in
    let l = c.loop-i in
    let h = c.loop-i-test.true in
    sum_turn l.invariant none _ (inside u l.i h) (c.active-sum.ensures ∙ active_at u l.i h c.args.lender) (omega (arith, c.active-sum.ensures, small_amount u l.i h c.requires c.args.lender))
