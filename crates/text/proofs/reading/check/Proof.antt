use mathlib.Core.Path.{◌∙◌, sym}
use borrow.Author.Rules.{rules}
use Rattle.refusal.specs.ChoiceLaws.{pick_on, pick_off}
use Rattle.text.specs.Reading.{checked}
use Rattle.text.proofs.reading.check.Statement.{statement}
use Rattle.text.proofs.reading.check.Tie as tie

returns : tie.Need-returns-then-plain-v
unfolding checked
returns c = sym (pick_on _ _ c.if-plain-v.true)

returns-2 : tie.Need-returns
unfolding checked
returns-2 c = c.none.ensures ∙ sym (pick_off _ _ c.if-plain-v.false)

pub check_spec : {M : Type 1} → statement M
check_spec = tie.close (tie.spec returns (λ c κs. search rules) returns-2)
