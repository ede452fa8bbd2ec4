use Rattle.std.proofs.Common.{sym}
use Rattle.wire.specs.Field.{head_of, bytes_of}
use Rattle.refusal.specs.PlacedLaws.{laid_out}
use Rattle.wire.proofs.Writing.{laid_mid}
use Rattle.wire.proofs.put_head.Goals as goal

pub returns-then-room : goal.returns-then-room
unfolding head_of bytes_of
returns-then-room c =
    let a = c.args in
    laid_mid a.p (head_of a.tag a.size) a.out.now c.copy.new.to (c.room.ensures.fits c.if-room.true) (rw c.to_be_bytes.ensures at c.copy.ensures.value)

pub returns-else-room : goal.returns-else-room
unfolding head_of bytes_of
returns-else-room c = sym (laid_out c.args.p (head_of c.args.tag c.args.size) c.args.out.now (c.room.ensures.lacks c.if-room.false))
