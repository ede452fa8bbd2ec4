use Rattle.std.proofs.Common.{sym, ◌∙◌, drop, arith}
use Rattle.rescue.proofs.Walk.{stepped, stopped, fits_room}
use Rattle.rescue.proofs.Sweeping.{sweeping, sweep_on, sweep_done, room_out, room_report}
use Rattle.rescue.proofs.sweep.Goals as goal

pub loop-size-init : goal.loop-size-init
loop-size-init c = sweeping c.args.edition c.args.s.now c.args.first c.args.out.now c.args.report.now c.requires.0.0 c.requires.0.1 c.requires.1

pub keep-p-requires : goal.keep-p-requires
keep-p-requires c =
    let b = drop c.loop-size.at c.args.s.now in
    room_out c.loop-size.invariant (stepped b (sym c.in-Some.is ∙ c.step.ensures)) c.stands-good.ensures c.requires.0.1

pub note-k-requires : goal.note-k-requires
note-k-requires c =
    let b = drop c.loop-size.at c.args.s.now in
    room_report c.loop-size.invariant (stepped b (sym c.in-Some.is ∙ c.step.ensures)) c.stands-good.ensures

pub overflow_add-at : goal.overflow_add-at
overflow_add-at c =
    let b = drop c.loop-size.at c.args.s.now in
    let f = stepped b (sym c.in-Some.is ∙ c.step.ensures) in
    record { fits = omega (arith, c.ranges, c.well_formed, f.size, fits_room c.args.s.now c.loop-size.at f.fit) }

pub loop-size-preserved : goal.loop-size-preserved
loop-size-preserved c =
    let b = drop c.loop-size.at c.args.s.now in
    sweep_on c.loop-size.invariant (stepped b (sym c.in-Some.is ∙ c.step.ensures)) c.stands-good.ensures c.keep-p.ensures c.note-k.ensures

pub loop-size-smaller : goal.loop-size-smaller
loop-size-smaller c =
    let b = drop c.loop-size.at c.args.s.now in
    let f = stepped b (sym c.in-Some.is ∙ c.step.ensures) in
    omega (arith, f.size, fits_room c.args.s.now c.loop-size.at f.fit)

pub returns : goal.returns
returns c = sweep_done c.loop-size.invariant (stopped (drop c.loop-size.at c.args.s.now) (sym c.in_default.is ∙ c.step.ensures))
