use Rattle.std.specs.Prelude.{ℕ, ◌<◌, get_or}
use Rattle.table.specs.Test.{row_test}
use Rattle.table.specs.All.{Checked}
use Rattle.negotiation.specs.Rounds.{round_slots, no_negotiation}
use Rattle.negotiation.specs.Whole.{Whole}
use Rattle.offer.specs.Offer.{no_deal, deal_sound, deal_zero}
use Rattle.shelves.specs.Offers.{rows_of}
use Rattle.shelves.proofs.Offers.sound.Given as goal

abbrev pub invariant-loop-i : goal.invariant-loop-i
invariant-loop-i l =
    Checked 64 (row_test (deal_sound l.edition) deal_zero no_deal l.self.count (rows_of l.self)) l.i l.ok
    × ((k : ℕ) → k < l.i → Whole round_slots (get_or l.self.negotiations k no_negotiation))
