use Rattle.std.proofs.Common.{List, ◌∷◌, ℕ, ap}
use Rattle.wire.specs.Field.{bytes_of, field_of, head_of}
use Rattle.wire.proofs.Writing.{be_eight}
use Rattle.wire.proofs.field.Goals as goal

pub returns : goal.returns
unfolding field_of head_of bytes_of
returns c = rw c.to_be_bytes.ensures (ap (λ (b : List ℕ). c.args.tag ∷ 0 ∷ 8 ∷ b) (be_eight c.args.v))
