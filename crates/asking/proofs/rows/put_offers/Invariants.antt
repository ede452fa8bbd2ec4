use Rattle.std.proofs.Common.{take}
use Rattle.lists.specs.Taking.{pick_from, spread}
use Rattle.lists.specs.Listing.{offers_of, taking}
use Rattle.sheet.specs.Sheet.{Wrote}
use Rattle.asking.specs.Answers.{offer_line}
use Rattle.asking.proofs.rows.put_offers.Given as goal

abbrev pub invariant-loop-i : goal.invariant-loop-i
invariant-loop-i l = Wrote l.ink (spread offer_line (pick_from (taking l.w) 0 (take l.i (offers_of l.rows)))) l.initial.out l.initial.p l.out l.p
