use Rattle.std.proofs.Common.{sym, ◌∙◌}
use Rattle.wire.specs.FieldLaws.{number_not, number_there}
use Rattle.wire.proofs.whole.Goals as goal

pub returns-then-room : goal.returns-then-room
returns-then-room c = c.digits.ensures ∙ sym (number_there c.args.n c.args.p c.args.s.now (c.room.ensures.fits c.if-room.true))

pub returns-else-room : goal.returns-else-room
returns-else-room c = sym (number_not c.args.n c.args.p c.args.s.now c.requires.0 (c.room.ensures.lacks c.if-room.false))
