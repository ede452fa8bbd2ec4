use Rattle.std.proofs.Common.{get_or, sym, refl, arith, eq-eqb, ne_eqb}
use Rattle.wire.specs.FieldLaws.{begins_not, begins_there}
use Rattle.wire.proofs.begins.Goals as goal

pub returns-then-not-room : goal.returns-then-not-room
returns-then-not-room c = sym (begins_not c.args.tag c.args.size c.args.p c.args.s.now (omega (arith, c.room.ensures.lacks c.if-not-room.true)))

pub returns-then-not-room-2 : goal.returns-then-not-room-2
returns-then-not-room-2 c = sym (begins_not c.args.tag c.args.size c.args.p c.args.s.now (omega (arith, c.room-2.ensures.lacks c.if-not-room-2.true)))

pub returns-then-s-p : goal.returns-then-s-p
returns-then-s-p c =
    let a = c.args in
    rw (begins_there a.tag a.size a.p a.s.now (omega (arith, c.room-2.ensures.fits c.if-not-room-2.false)), eq-eqb (get_or a.s.now a.p 0) a.tag c.if-s-p.true, ← c.digits.ensures) refl

pub returns-else-s-p : goal.returns-else-s-p
returns-else-s-p c =
    let a = c.args in
    rw (begins_there a.tag a.size a.p a.s.now (omega (arith, c.room-2.ensures.fits c.if-not-room-2.false)), ne_eqb (get_or a.s.now a.p 0) a.tag c.if-s-p.false) refl
