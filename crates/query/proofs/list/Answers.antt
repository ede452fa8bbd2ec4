use Rattle.std.proofs.Common.{◌∙◌, ap, []}
use Rattle.std.proofs.Math.Bool.{not}
use Rattle.refusal.specs.Refusal.{book_unsound}
use Rattle.refusal.specs.Rule.{answered}
use Rattle.refusal.specs.RuleLaws.{goes_on}
use Rattle.table.specs.Tables.{Table}
use Rattle.offer.specs.declared.Offer.{Offer}
use Rattle.lists.specs.Listing.{offers_of, list_rule, told}
use Rattle.query.specs.Held.{offers_held}
use Rattle.query.proofs.list.Goals as goal

pub returns : goal.returns
returns c =
    goes_on told book_unsound _ _ _ (ap not c.in_ok-tested.ensures.test)
    (c.list.ensures
    ∙ ap (λ (t : Table Offer). answered told ([], c.args.out.now) (list_rule c.args.w t c.args.out.now))
    (ap offers_of c.offers_only.ensures ∙ offers_held c.in_ok-tested.ensures.shelved))
