use Rattle.std.proofs.Common.{ℕ, sym, ap, ◌∙◌}
use Rattle.replay.specs.Heading.{edition_good, edition_bad}
use Rattle.journal.specs.Answers.{opening}
use Rattle.rules.specs.Model.{fresh_model}
use Rattle.book.specs.Stored.{stored}
use Rattle.replay.proofs.fresh_for.Goals as goal

pub returns-in_default : goal.returns-in_default
returns-in_default c = c.of_edition.ensures ∙ sym (ap (λ (e : ℕ). stored (fresh_model e)) (edition_bad c.args.s.now (sym c.header.ensures ∙ ap opening c.in_default.is)))

pub returns : goal.returns
returns c = c.of_edition-2.ensures ∙ sym (ap (λ (e : ℕ). stored (fresh_model e)) (edition_good c.args.s.now (sym c.header.ensures ∙ ap opening c.in-Ok.is)))
