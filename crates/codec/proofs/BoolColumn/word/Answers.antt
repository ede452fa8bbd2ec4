use Rattle.std.proofs.Common.{◌≡◌, Bool, true, false, refl}
use mir.Val.{bool_byte}
use Rattle.codec.specs.Columns.{one_if}
use Rattle.codec.specs.Puts.{held_flag}
use Rattle.codec.proofs.BoolColumn.word.Goals as goal

byte_is : (b : Bool) → bool_byte b ≡ one_if b
byte_is true = refl
byte_is false = refl

pub returns : goal.returns
returns c = rw (c.from.ensures, byte_is c.args.self) (held_flag c.args.self)
