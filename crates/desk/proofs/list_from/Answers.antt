use Rattle.std.proofs.Common.{◌≡◌, ap, ◌∙◌, arith, length}
use Rattle.book.specs.Stored.{model_of}
use Rattle.replay.specs.declared.Listed.{Listed}
use Rattle.replay.specs.declared.Listed.TheVariants.{Done}
use Rattle.replay.specs.Text.{listing_says, listing_on}
use Rattle.replay.specs.Typing.{bounded}
use Rattle.desk.specs.From.{from_room, never_short, shown}
use Rattle.desk.proofs.list_from.Goals as goal

pub returns-in-Done-clause-value : goal.returns-in-Done-clause-value
returns-in-Done-clause-value c =
    let b = c.args.book in
    let t = c.requires.1 in
    let p = c.in-Done.ensures in (
      ap (λ (d : Listed). (listing_says d).1) (never_short b _ _ {x = Done c.in-Done.k} (bounded b _ c.well_formed.0 t) t c.requires.0.0 c.requires.0.1 p.0),
      p.1 ∙ shown b _ _ t,
    )

pub returns-in-Done-clause-upper_bound : goal.returns-in-Done-clause-upper_bound
returns-in-Done-clause-upper_bound c =
    let b = c.args.book in
    let t = c.requires.1 in
    let d = bounded b _ c.well_formed.0 t in
    let k : c.in-Done.k ≡ length (listing_on (model_of b) c.args.s.now)
    = ap (λ (d : Listed). (listing_says d).1) (never_short b _ _ {x = Done c.in-Done.k} d t c.requires.0.0 c.requires.0.1 c.in-Done.ensures.0) in
    omega (arith, k, from_room b c.args.s.now d c.requires.0.0)

pub returns-in_default : goal.returns-in_default
returns-in_default c =
    let b = c.args.book in
    let t = c.requires.1 in
    absurd (c.in_default.not-Done _ (never_short b _ _ (bounded b _ c.well_formed.0 t) t c.requires.0.0 c.requires.0.1 c.listing_from-r.ensures.0))
