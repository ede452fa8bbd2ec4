use Rattle.std.proofs.Common.{◌≤◌}
use Rattle.table.specs.Shelf.{table_of}
use Rattle.shelves.specs.Offers.{rows_of}
use Rattle.codec.specs.Puts.{Listing}
use Rattle.snapshot.specs.Layout.{deal}
use Rattle.snapshot.proofs.writing.put_offers.Given as goal

abbrev pub invariant-loop-i : goal.invariant-loop-i
invariant-loop-i l = record { few : l.i-end ≤ 64; listing : Listing (deal l.edition) l.ink (table_of l.table.ids (rows_of l.table) l.i) l.initial.out l.initial.p l.out l.p }
