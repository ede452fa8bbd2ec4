use mathlib.Core.Path.{refl}
use Rattle.journal.specs.Table.{padded}
use Rattle.text.proofs.reading.no_line.Statement.{statement}
use Rattle.text.proofs.reading.no_line.Tie as tie

pub no_line_spec : {M : Type 1} → statement M
unfolding padded
no_line_spec = tie.close (tie.spec (λ c. refl))
