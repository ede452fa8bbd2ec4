use Rattle.std.proofs.Common.{◌+◌, ℕ, sym, ap, ◌∙◌, drop, arith}
use Rattle.refusal.specs.ChoiceLaws.{pick_off}
use Rattle.wire.specs.FieldTrip.{bytes_drop, number_small}
use Rattle.rescue.proofs.Walk.{fits_not, outer_at, a_step, no_step}
use Rattle.rescue.proofs.step.Goals as goal

pub returns-then-s-at-lt3 : goal.returns-then-s-at-lt3
returns-then-s-at-lt3 c = sym (pick_off _ _ (fits_not c.args.s.now c.args.at (omega (arith, c.if-s-at-lt3.true, c.requires))))

pub overflow_add-size : goal.overflow_add-size
overflow_add-size c =
    let s = c.args.s.now in
    let p = c.args.at + 1 in
    record { fits = omega (arith, c.pair.ensures, number_small 2 (drop p s) (bytes_drop p s (λ i. (c.type_inv.s i).fits))) }

pub returns-then-s-at : goal.returns-then-s-at
returns-then-s-at c = no_step c.args.s.now c.args.at (ap (λ (n : ℕ). 3 + n) c.pair.ensures ∙ outer_at c.args.s.now c.args.at) c.if-s-at.true

pub returns : goal.returns
returns c = a_step c.args.s.now c.args.at (ap (λ (n : ℕ). 3 + n) c.pair.ensures ∙ outer_at c.args.s.now c.args.at) c.if-s-at.false
