use Rattle.std.proofs.Common.{ap}
use Rattle.replay.specs.declared.Listed.{Listed}
use Rattle.replay.specs.declared.Listed.TheVariants.{Done}
use Rattle.replay.specs.Text.{listing_says}
use Rattle.replay.proofs.Room.{never_short}
use Rattle.desk.proofs.list.Goals as goal

pub returns-in-Done : goal.returns-in-Done
returns-in-Done c =
    (ap (λ (d : Listed). (listing_says d).1) (never_short _ _ {x = Done c.in-Done.k} c.requires.0 c.requires.1 c.in-Done.ensures.0), c.in-Done.ensures.1)

pub returns-in_default : goal.returns-in_default
returns-in_default c = absurd (c.in_default.not-Done _ (never_short _ _ c.requires.0 c.requires.1 c.listing-r.ensures.0))
