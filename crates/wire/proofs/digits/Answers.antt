use Rattle.std.proofs.Common.{◌≡◌, ◌+◌, drop, get_or, refl, sym, ◌∙◌, add-one, arith, get_or-drop}
use Rattle.wire.specs.Field.{number_in}
use Rattle.wire.specs.NumberLaws.{step_below, step_fits, number_one}
use Rattle.wire.proofs.digits.Goals as goal

pub loop-i-init : goal.loop-i-init
unfolding number_in
loop-i-init c = record { value = refl; below = search arith }

pub overflow_mul-v : goal.overflow_mul-v
overflow_mul-v c =
    let h = step_fits c.loop-i.i c.loop-i.v 0 (omega (arith, c.requires)) c.loop-i.invariant.below (omega arith) in
    record { fits = omega arith }

pub overflow_add-v : goal.overflow_add-v
overflow_add-v c =
    let b = c.type_inv.s (c.args.p + c.loop-i.i) in
    record { fits = step_fits c.loop-i.i c.loop-i.v c.from.result (omega (arith, c.requires)) c.loop-i.invariant.below (omega (arith, b.fits, c.from.ensures)) }

pub loop-i-preserved : goal.loop-i-preserved
loop-i-preserved c =
    let l = c.loop-i in
    let b = c.type_inv.s (c.args.p + l.i) in
    let e : get_or (drop c.args.p c.args.s.now) l.i 0 ≡ c.from.result = get_or-drop c.args.p c.args.s.now l.i 0 ∙ sym c.from.ensures in
    record {
      value = rw (number_one, e, ← l.invariant.value) refl;
      below = rw add-one (step_below l.i l.v c.from.result l.invariant.below (omega (arith, b.fits, c.from.ensures)));
    }
