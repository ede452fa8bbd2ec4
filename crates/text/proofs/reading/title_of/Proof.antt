use mathlib.Core.Path.{◌≡◌, sym, ◌∙◌}
use mathlib.Core.Bool.{true}
use native.Mathlib.Omega.{arith}
use lib.ListN.{get_or}
use borrow.Author.Rules.{rules}
use borrow.Author.Tests.{not-true, not-false}
use Rattle.refusal.specs.ChoiceLaws.{pick_on, pick_off}
use Rattle.edition.specs.Edition.{first_edition}
use Rattle.journal.specs.RoundTrip.{listed_fits}
use Rattle.text.specs.Reading.{line_in}
use Rattle.text.specs.LineWalk.{Had, had}
use Rattle.text.specs.Title.{is_later, titled}
use Rattle.text.specs.TitleLaws.{no_title, later_known, some_title}
use Rattle.text.proofs.reading.title_of.Statement.{statement}
use Rattle.text.proofs.reading.title_of.Tie as tie

line-had : (c : tie.Else-not-x) → Had (line_in first_edition 0x10 0x11 c.args.s.now 0) c.line_at-x.result
line-had c = had _ c.line_at-x.ensures (not-false _ c.if-not-x.false)

returns : tie.Need-returns-then-not-x
returns c = c.no_title.ensures ∙ no_title _ c.line_at-x.ensures (not-true _ c.if-not-x.true)

returns-2 : tie.Need-returns-then-not-is_later
unfolding titled
returns-2 c = c.no_title-then-not-is_later.ensures ∙ sym (pick_off _ _ (sym c.is_later.ensures ∙ not-true _ c.if-not-is_later.true-raw)) ∙ some_title _ (line-had c.before.before.before.before)

later : (c : tie.Else-not-is_later) → is_later (get_or c.line_at-x.result.values 0 0) ≡ true
later c = sym c.is_later.ensures ∙ not-false _ c.if-not-is_later.false-raw

cast-t10 : tie.Need-overflow_cast-result
cast-t10 c = let n = get_or c.line_at-x.result.values 0 0 in omega (arith, listed_fits n (later_known n (later c)))

returns-3 : tie.Need-returns
unfolding titled
returns-3 c = sym (pick_on _ _ (later c)) ∙ some_title _ (line-had c.before.before.before)

pub title_of_spec : {M : Type 1} → statement M
title_of_spec =
    tie.close
    (tie.spec (λ c κs. search rules) (λ c κs. search rules) returns (λ c. search rules) (λ c κs. search rules) (λ c κs. search rules) returns-2 cast-t10 returns-3)
