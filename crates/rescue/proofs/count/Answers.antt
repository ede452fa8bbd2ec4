use Rattle.std.proofs.Common.{sym, ◌∙◌, drop, arith}
use Rattle.rescue.proofs.Walk.{stepped, stopped, fits_room}
use Rattle.rescue.proofs.Sweeping.{counting, count_on, count_done}
use Rattle.rescue.proofs.count.Goals as goal

pub loop-size-init : goal.loop-size-init
loop-size-init c = counting c.args.edition c.args.s.now c.args.first c.requires

pub overflow_add-at : goal.overflow_add-at
overflow_add-at c =
    let b = drop c.loop-size.at c.args.s.now in
    let f = stepped b (sym c.in-Some.is ∙ c.step.ensures) in
    record { fits = omega (arith, c.ranges, c.well_formed, f.size, fits_room c.args.s.now c.loop-size.at f.fit) }

pub loop-size-preserved : goal.loop-size-preserved
loop-size-preserved c =
    let b = drop c.loop-size.at c.args.s.now in
    count_on c.loop-size.invariant (stepped b (sym c.in-Some.is ∙ c.step.ensures)) c.stands.ensures c.missing-n.ensures

pub loop-size-smaller : goal.loop-size-smaller
loop-size-smaller c =
    let b = drop c.loop-size.at c.args.s.now in
    let f = stepped b (sym c.in-Some.is ∙ c.step.ensures) in
    omega (arith, f.size, fits_room c.args.s.now c.loop-size.at f.fit)

pub returns : goal.returns
returns c = count_done c.loop-size.invariant (stopped (drop c.loop-size.at c.args.s.now) (sym c.in_default.is ∙ c.step.ensures))
