use Rattle.std.proofs.Common.{◌∙◌, ap, sym, Option}
use Rattle.sheet.specs.SheetLaws.{next, retext}
use Rattle.lists.specs.Listing.{offers_of}
use Rattle.lists.specs.declared.Wanted.{Wanted}
use Rattle.asking.specs.Questions.{list_text}
use Rattle.asking.specs.QuestionLaws.{list_known, list_unknown}
use Rattle.asking.proofs.put_list.Goals as goal

pub returns-in_default : goal.returns-in_default
unfolding list_text
returns-in_default c = retext c.put_row.ensures (sym (ap (λ (x : Option Wanted). list_text x (offers_of c.args.offers)) c.in_default.is))

pub returns-then-not-is_known : goal.returns-then-not-is_known
returns-then-not-is_known c = retext c.put_row-then-not-is_known.ensures (list_unknown _ c.in-Some.is (sym c.is_known.ensures ∙ c.if-not-is_known.true))

pub returns : goal.returns
returns c =
    retext (next c.put_row-p.ensures c.put_offers.ensures)
    (list_known _ c.in-Some.is (sym c.is_known.ensures ∙ c.if-not-is_known.false) c.count_of.ensures.counted)
