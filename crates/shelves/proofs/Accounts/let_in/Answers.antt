use Rattle.std.proofs.Common.{arith, sym, ◌∙◌}
use Rattle.table.specs.Rows.{here_absent}
use Rattle.table.proofs.ShelfLaws.{at_found}
use Rattle.table.proofs.SpotLaws.{slot_inside}
use Rattle.table.proofs.Raising.{raised, raised_on, let_in_lem}
use Rattle.shelves.specs.Accounts.{as_accounts}
use Rattle.shelves.proofs.Accounts.let_in.Goals as goal

pub returns-then-count-ge-ROOM : goal.returns-then-count-ge-ROOM
returns-then-count-ge-ROOM c = λ room. absurd (omega (arith, room.small, c.requires.counted, c.if-count-ge-ROOM.true))

pub returns-in_default : goal.returns-in_default
returns-in_default c = λ room. absurd (here_absent _ (sym (at_found c.requires _ _ (sym c.find.ensures ∙ c.in_default.is)) ∙ room.new))

pub loop-i-init : goal.loop-i-init
loop-i-init c = raised c.requires (slot_inside _ _ _ _ (sym c.find.ensures ∙ c.in-Err.is))

pub offset_bounds-self-j : goal.offset_bounds-self-j
offset_bounds-self-j c = omega (arith, c.loop-i-test.true, c.loop-i.invariant.place.within, c.if-count-ge-ROOM.false)

pub bounds-self-j : goal.bounds-self-j
bounds-self-j c = omega (arith, c.loop-i-test.true, c.loop-i.invariant.place.within, c.if-count-ge-ROOM.false)

pub offset_bounds-self-i : goal.offset_bounds-self-i
offset_bounds-self-i c = omega (arith, c.loop-i-test.true, c.loop-i.invariant.place.within, c.if-count-ge-ROOM.false)

pub bounds-self-i : goal.bounds-self-i
bounds-self-i c = omega (arith, c.loop-i-test.true, c.loop-i.invariant.place.within, c.if-count-ge-ROOM.false)

pub offset_bounds-self-j-in-loop-i : goal.offset_bounds-self-j-in-loop-i
offset_bounds-self-j-in-loop-i c = omega (arith, c.loop-i-test.true, c.loop-i.invariant.place.within, c.if-count-ge-ROOM.false)

pub bounds-self-j-in-loop-i : goal.bounds-self-j-in-loop-i
bounds-self-j-in-loop-i c = omega (arith, c.loop-i-test.true, c.loop-i.invariant.place.within, c.if-count-ge-ROOM.false)

pub offset_bounds-self-i-in-loop-i : goal.offset_bounds-self-i-in-loop-i
offset_bounds-self-i-in-loop-i c = omega (arith, c.loop-i-test.true, c.loop-i.invariant.place.within, c.if-count-ge-ROOM.false)

pub bounds-self-i-in-loop-i : goal.bounds-self-i-in-loop-i
bounds-self-i-in-loop-i c = omega (arith, c.loop-i-test.true, c.loop-i.invariant.place.within, c.if-count-ge-ROOM.false)

pub loop-i-preserved : goal.loop-i-preserved
loop-i-preserved c = raised_on c.loop-i.invariant _ _ (omega (arith, c.loop-i-test.true)) c.loop-i-test.true

pub offset_bounds-self-i-2 : goal.offset_bounds-self-i-2
offset_bounds-self-i-2 c = omega (arith, c.loop-i.invariant.place.within, c.if-count-ge-ROOM.false)

pub bounds-self-i-2 : goal.bounds-self-i-2
bounds-self-i-2 c = omega (arith, c.loop-i.invariant.place.within, c.if-count-ge-ROOM.false)

pub offset_bounds-self-i-3 : goal.offset_bounds-self-i-3
offset_bounds-self-i-3 c = omega (arith, c.loop-i.invariant.place.within, c.if-count-ge-ROOM.false)

pub bounds-self-i-3 : goal.bounds-self-i-3
bounds-self-i-3 c = omega (arith, c.loop-i.invariant.place.within, c.if-count-ge-ROOM.false)

pub returns : goal.returns
returns c = λ room. let_in_lem c.loop-i.invariant as_accounts c.requires _ _ (omega (arith, c.if-count-ge-ROOM.false)) (sym c.find.ensures ∙ c.in-Err.is) (omega (arith, c.loop-i-test.false))
