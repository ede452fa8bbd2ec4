use mathlib.Core.Path.{refl, sym, ◌∙◌}
use mathlib.Core.List.{[], ◌∷◌}
use borrow.Author.Rules.{rules}
use borrow.Author.Tests.{not-true, not-false}
use Rattle.refusal.specs.ChoiceLaws.{pick_on, pick_off}
use Rattle.edition.specs.Edition.{first_edition}
use Rattle.sheet.specs.SheetLaws.{none, retext}
use Rattle.journal.specs.Table.{padded}
use Rattle.text.specs.LineLaws.{line_sent}
use Rattle.text.specs.Title.{title_of}
use Rattle.text.proofs.writing.put_title.Statement.{statement}
use Rattle.text.proofs.writing.put_title.Tie as tie

returns : tie.Need-returns-then-not-is_later
unfolding title_of
returns c = retext (none _ _ _) (sym (pick_off _ _ (sym c.is_later.ensures ∙ not-true _ c.if-not-is_later.true-raw)))

returns-2 : tie.Need-returns
unfolding title_of padded
returns-2 c =
    let b = c.before.before.before.before in
    let e = b.args.edition in
    retext c.put_line.ensures (line_sent first_edition (0x10, e ∷ []) refl ∙ sym (pick_on _ _ (sym b.is_later.ensures ∙ not-false _ b.if-not-is_later.false-raw)))

pub put_title_spec : {M : Type 1} → statement M
put_title_spec = tie.close (tie.spec (λ c κs. search rules) returns (λ c κs. search rules) (λ c. search rules) returns-2)
