use Rattle.std.proofs.Common.{Bool, not, ◌&&◌, refl, sym, ap, subst, arith, ◌≡◌, ◌∙◌}
use Rattle.table.proofs.NamedLaws.{fine_by}
use Rattle.offer.specs.Offer.{no_deal}
use Rattle.table.proofs.Storing.{stays, room, grows, once}
use Rattle.shelves.specs.Offers.{deals_of, stored_deals, DealShelf}
use Rattle.shelves.specs.OfferLaws.{deals_keeping}
use Rattle.shelves.specs.Seeing.{deal_row}
use Rattle.shelves.specs.Placing.{deal_read_lem, was_by}
use Rattle.shelves.proofs.Offers.store_at.Goals as goal

pub let_in-requires : goal.let_in-requires
let_in-requires c = subst DealShelf (sym c.put.ensures) (deals_keeping.good (fine_by (deals_keeping.fine _ c.requires.deals) c.args.key c.args.deal.row))

pub returns-then-was-deal : goal.returns-then-was-deal
returns-then-was-deal c = λ u l.
    let wrote = once stored_deals (deals_of c.args.self.now) c.args.key c.args.deal.row c.put.ensures in
    let was = was_by _ _ (deal_read_lem c.requires.deals no_deal.offer no_deal.negotiation no_deal.schedule c.args.key c.requires.found) in
    let came = ap (λ z. not z && c.args.deal.here) (sym was) ∙ c.if-was-deal.true in
    grows deals_keeping deal_row (λ r. refl) l wrote came ((simp c.id_of.ensures at c.let_in.ensures) (room deals_keeping deal_row (λ r. refl) l wrote came))

pub returns-else-was-deal : goal.returns-else-was-deal
returns-else-was-deal c = λ u l.
    let wrote = once stored_deals (deals_of c.args.self.now) c.args.key c.args.deal.row c.put.ensures in
    let was = was_by _ _ (deal_read_lem c.requires.deals no_deal.offer no_deal.negotiation no_deal.schedule c.args.key c.requires.found) in
    stays deals_keeping deal_row (λ r. refl) l wrote (ap (λ z. not z && c.args.deal.here) (sym was) ∙ c.if-was-deal.false)
