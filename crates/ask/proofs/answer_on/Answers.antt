use Rattle.corollary.proofs.Replayed.{from_shelved, from_sound}
use Rattle.replay.specs.Typing.{typed}
use Rattle.ask.proofs.answer_on.Goals as goal

pub serve-requires : goal.serve-requires
serve-requires g c =
    let b = c.args.book in
    let y = typed b _ c.well_formed.1.0 in
    let e = c.replay_from-outcome.ensures in
    record { shelved = from_shelved b y c.requires _ _ e; tested = from_sound b y c.requires _ _ e }
