use mathlib.Core.Path.{ap}
use mathlib.Core.Bool.{Bool, ◌&&◌}
use lib.Dec.{ltb}
use borrow.Author.Rules.{rules}
use Rattle.edition.specs.Edition.{first_edition}
use Rattle.text.specs.TitleLaws.{not_later}
use Rattle.text.proofs.reading.is_later.Statement.{statement}
use Rattle.text.proofs.reading.is_later.Tie as tie

returns : tie.Need-returns-then-n-gt65535
returns c = not_later _ c.if-n-gt65535.true

returns-2 : tie.Need-returns
returns-2 c = ap (λ (b : Bool). ltb first_edition c.args.n && b) c.is_listed.ensures

pub is_later_spec : {M : Type 1} → statement M
is_later_spec = tie.close (tie.spec returns (λ c. search rules) (λ c κs. search rules) returns-2)
