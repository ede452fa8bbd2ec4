use Rattle.std.proofs.Common.{◌≡◌, ap, ◌∙◌, arith}
use mir.Facts.{to_z-of_z}
use Rattle.money.specs.Range.{bits_of}
use Rattle.codec.specs.Puts.{held_signed}
use Rattle.codec.proofs.I64Column.word.Goals as goal

pub returns : goal.returns
returns c =
    let e = to_z-of_z c.ranges.self in
    let i : c.bits.result ≡ bits_of c.args.self = c.bits.ensures ∙ ap bits_of e in
    held_signed i (omega (arith, i, c.bits.type_inv)) e
