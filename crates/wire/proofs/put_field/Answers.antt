use Rattle.std.proofs.Common.{◌+◌, ◌≤◌, length, sym, arith}
use Rattle.wire.specs.Field.{bytes_of, field_of}
use Rattle.wire.specs.FieldLaws.{length_field}
use Rattle.refusal.specs.PlacedLaws.{laid_out}
use Rattle.wire.proofs.Writing.{laid_mid}
use Rattle.wire.proofs.put_field.Goals as goal

pub returns-then-room : goal.returns-then-room
returns-then-room c =
    let a = c.args in
    let w = field_of a.tag (bytes_of 8 a.v) in
    let h : a.p + length w ≤ length a.out.now = omega (arith, length_field a.tag a.v, c.room.ensures.fits c.if-room.true) in
    laid_mid a.p w a.out.now c.copy.new.to h (rw c.field.ensures at c.copy.ensures.value)

pub returns-else-room : goal.returns-else-room
returns-else-room c =
    let a = c.args in
    sym (laid_out a.p (field_of a.tag (bytes_of 8 a.v)) a.out.now (omega (arith, length_field a.tag a.v, c.room.ensures.lacks c.if-room.false)))
