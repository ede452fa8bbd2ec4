-- A row that was looked up: whether it is there, and the row, which is zero where it is not
use Rattle.table.specs.Tables.{Found}
use Rattle.table.specs.Seen.{seen, put_seen}
use Rattle.table.specs.declared.Seen.{Seen}
use Rattle.offer.specs.Offer.{no_deal}
use Rattle.offer.specs.declared.Deal.{Deal}

abbrev pub SeenDeal : Type 0
SeenDeal = Seen Deal

abbrev pub seen_deal : Found Deal → SeenDeal
seen_deal = seen no_deal

-- the row made x, where there is one
abbrev pub put_deal : SeenDeal → Deal → SeenDeal
put_deal = put_seen
