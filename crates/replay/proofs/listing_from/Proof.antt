use Rattle.refusal.specs.ChoiceLaws.{on, off}
use Rattle.replay.specs.Text.{listed_from, shown_from}
use Rattle.replay.specs.Typing.{bounded}
use mathlib.Core.Path.{refl, sym, ◌∙◌}
use borrow.Author.Tests.{not-true, not-false}
use borrow.Author.Rules.{rules}
use Rattle.replay.proofs.listing_from.Statement.{statement}
use Rattle.replay.proofs.listing_from.Tie as tie

returns : tie.Need-returns-then-not-sound
unfolding listed_from shown_from
returns c = let e = sym c.sound.ensures.0 ∙ not-true c.sound.result c.if-not-sound.true-raw in (off _ e refl, off _ e refl)

list-requires : tie.Need-list-requires
list-requires c κs =
    let t = not-false c.sound.result c.if-not-sound.false-raw in
    (c.sound.ensures.1 t, bounded c.args.book _ c.well_formed.0 (sym c.sound.ensures.0 ∙ t))

returns-2 : tie.Need-returns
unfolding listed_from shown_from
returns-2 c =
    let e = sym c.sound.ensures.0 ∙ not-false c.sound.result c.if-not-sound.false-raw in
    (on _ e c.list.ensures.0, on _ e c.list.ensures.1)

pub listing_from_spec : {M : Type 1} → statement M
listing_from_spec = tie.close (tie.spec (λ c κs. search rules) returns list-requires (λ c. search rules) returns-2)
