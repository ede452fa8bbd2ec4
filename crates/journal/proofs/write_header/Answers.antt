use Rattle.std.proofs.Common.{refl}
use Rattle.wire.specs.Field.{field_of, head_of, bytes_of}
use Rattle.refusal.specs.Placed.{placed}
use Rattle.journal.specs.Format.{header_of}
use Rattle.journal.specs.WriteLaws.{short, fitting}
use Rattle.journal.proofs.write_header.Goals as goal

pub returns-then-out-lt5 : goal.returns-then-out-lt5
unfolding header_of field_of head_of bytes_of
returns-then-out-lt5 c = short 0 (header_of c.args.edition) c.args.out.now c.if-out-lt5.true

pub returns : goal.returns
unfolding header_of field_of head_of bytes_of placed
returns c = fitting 0 (header_of c.args.edition) c.args.out.now c.if-out-lt5.false refl (rw c.to_be_bytes.ensures at c.copy.ensures.value)
