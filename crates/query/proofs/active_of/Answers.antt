use Rattle.std.proofs.Common.{◌∙◌, ap}
use Rattle.lists.specs.declared.OfferRows.{OfferRows}
use Rattle.lists.specs.Listing.{offers_of}
use Rattle.lists.specs.Active.{active_of}
use Rattle.query.specs.Held.{offers_held, amounts_held}
use Rattle.query.proofs.active_of.Goals as goal

pub active_total-requires : goal.active_total-requires
active_total-requires c = rw c.offers_only.ensures (amounts_held c.requires.shelved c.requires.sound)

pub returns : goal.returns
returns c =
    let lender = c.args.lender in
    c.active_total.ensures
    ∙ ap (λ (t : OfferRows). active_of lender (offers_of t)) c.offers_only.ensures
    ∙ ap (active_of lender) (offers_held c.requires.shelved)
