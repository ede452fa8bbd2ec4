use Rattle.std.proofs.Common.{◌≡◌, sym, ap, ◌∙◌, ◌+◌, get_or, drop, arith, add-zero, drop-drop, length-drop}
use borrow.Author.Tests.{not-true, not-false}
use Rattle.journal.specs.Table.{padded}
use Rattle.text.specs.Reading.{unread, spaced_in, read_in, numbers_for}
use Rattle.text.specs.ReadingLaws.{spaced_size}
use Rattle.text.specs.NumbersLaws.{gather_none, gather_on, gather_out, gather_done}
use Rattle.text.specs.declared.reading.Numeral.{Numeral}
use Rattle.text.proofs.reading.numbers_at.Goals as goal

pub loop-i-init : goal.loop-i-init
unfolding padded
loop-i-init c = (0, (omega arith, gather_none c.args.tags.now (drop c.args.at c.args.s.now)))

pub spaced-x-requires : goal.spaced-x-requires
spaced-x-requires c = let i = c.loop-i.invariant in omega (arith, i.1.0, i.1.1.inside, length-drop c.args.at c.args.s.now, c.requires.0)

pub returns-then-not-x : goal.returns-then-not-x
unfolding padded
returns-then-not-x c =
    let a = c.args in
    let i = c.loop-i.invariant in
    let h : spaced_in (get_or a.tags.now c.loop-i.i 0) (drop i.0 (drop a.at a.s.now)) ≡ c.spaced-x.result = rw (drop-drop i.0 a.at a.s.now, ← i.1.0) (sym c.spaced-x.ensures) in
    let e = gather_out i.1.1 c.loop-i-test.true (ap (λ (x : Numeral). x.ok) h ∙ not-true _ c.if-not-x.true) in
    let z : numbers_for a.at unread ≡ numbers_for a.at (read_in a.tags.now (drop a.at a.s.now)) = ap (numbers_for a.at) (sym e) in
    rw (add-zero a.at) at z

pub overflow_add-next : goal.overflow_add-next
overflow_add-next c =
    let a = c.args in
    let i = c.loop-i.invariant in
    let t = drop a.at a.s.now in
    let h : spaced_in (get_or a.tags.now c.loop-i.i 0) (drop i.0 t) ≡ c.spaced-x.result = rw (drop-drop i.0 a.at a.s.now, ← i.1.0) (sym c.spaced-x.ensures) in
    let e = spaced_size (get_or a.tags.now c.loop-i.i 0) (drop i.0 t) (ap (λ (x : Numeral). x.ok) h ∙ not-false _ c.if-not-x.false) in
    record { fits = omega (arith, c.ranges, c.well_formed, ap (λ (x : Numeral). x.size) h, e, length-drop i.0 t, length-drop a.at a.s.now, i.1.0, i.1.1.inside, c.requires.0) }

pub overflow_add-next-in-loop-i : goal.overflow_add-next-in-loop-i
overflow_add-next-in-loop-i c =
    let a = c.args in
    let i = c.loop-i.invariant in
    let t = drop a.at a.s.now in
    let h : spaced_in (get_or a.tags.now c.loop-i.i 0) (drop i.0 t) ≡ c.spaced-x.result = rw (drop-drop i.0 a.at a.s.now, ← i.1.0) (sym c.spaced-x.ensures) in
    let e = spaced_size (get_or a.tags.now c.loop-i.i 0) (drop i.0 t) (ap (λ (x : Numeral). x.ok) h ∙ not-false _ c.if-not-x.false) in
    record { fits = omega (arith, c.ranges, c.well_formed, ap (λ (x : Numeral). x.size) h, e, length-drop i.0 t, length-drop a.at a.s.now, i.1.0, i.1.1.inside, c.requires.0) }

pub loop-i-preserved : goal.loop-i-preserved
loop-i-preserved c =
    let a = c.args in
    let i = c.loop-i.invariant in
    let h : spaced_in (get_or a.tags.now c.loop-i.i 0) (drop i.0 (drop a.at a.s.now)) ≡ c.spaced-x.result = rw (drop-drop i.0 a.at a.s.now, ← i.1.0) (sym c.spaced-x.ensures) in
    let g = gather_on i.1.1 c.loop-i-test.true (omega (arith, c.loop-i-test.true, c.requires.1)) (ap (λ (x : Numeral). x.ok) h ∙ not-false _ c.if-not-x.false) in
    (i.0 + (c.spaced-x.result.size + 1), (omega (arith, i.1.0), rw h at g))

pub returns : goal.returns
returns c =
    let i = c.loop-i.invariant in
    let g = i.1.1 in
    let e = gather_done g (omega arith) in
    rw (g.held, i.1.0) (ap (numbers_for c.args.at) (sym e))
