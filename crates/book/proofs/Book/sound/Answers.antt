use Rattle.std.proofs.Common.{sym, ◌∙◌}
use Rattle.table.specs.All.{both_same}
use Rattle.book.specs.Stored.{book_test}
use Rattle.book.specs.Tested.{shelved_of}
use Rattle.book.proofs.Book.sound.Goals as goal

pub returns : goal.returns
unfolding book_test
returns c =
    let t = both_same (both_same (both_same (both_same c.sound-accounts.ensures.tested c.sound-invoices.ensures.tested) c.sound-offers.ensures.tested) c.sound-totals.ensures) c.sound.ensures in
    record { tested = t; shelved = λ h. shelved_of c.args.self.now c.sound-accounts.ensures.sized c.sound-invoices.ensures.sized c.sound-offers.ensures.whole (sym t ∙ h) }
