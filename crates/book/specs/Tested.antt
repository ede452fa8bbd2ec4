-- A book that passes the test is one whose arrays are tables
use Rattle.std.specs.Prelude.{◌≡◌, true, ◌&&◌}
use Rattle.table.specs.All.{both_true}
use Rattle.settings.specs.Settings.{settings_sound}
use Rattle.totals.specs.Totals.{totals_sound}
use Rattle.shelves.specs.Sized.{Sized}
use Rattle.shelves.specs.Accounts.{accounts_test}
use Rattle.shelves.specs.Invoices.{invoices_test}
use Rattle.shelves.specs.Offers.{deals_test, WholeDeals}
use Rattle.shelves.specs.Laws.{accounts_shelf, invoices_shelf}
use Rattle.shelves.specs.OfferLaws.{deals_shelf}
use Rattle.book.specs.declared.Book.{Book}
use Rattle.book.specs.Stored.{Shelved, book_test}

-- the parts of the test
pub record Tests (b : Book) : Type 0 where
  pub accounts : accounts_test b.accounts ≡ true
  pub invoices : invoices_test b.invoices ≡ true
  pub offers : deals_test b.settings.edition b.offers ≡ true
  pub totals : totals_sound b.totals ≡ true
  pub settings : settings_sound b.settings ≡ true

pub tests_of : (b : Book) → book_test b ≡ true → Tests b
unfolding book_test
tests_of b e =
    let a = accounts_test b.accounts in
    let i = invoices_test b.invoices in
    let o = deals_test b.settings.edition b.offers in
    let t = totals_sound b.totals in
    let p = both_true (((a && i) && o) && t) (settings_sound b.settings) e in
    let q = both_true ((a && i) && o) t p.0 in
    let r = both_true (a && i) o q.0 in
    let s = both_true a i r.0 in
    record { accounts = s.0; invoices = s.1; offers = r.1; totals = q.1; settings = p.1 }

pub shelved_of : (b : Book) → Sized b.accounts.ids b.accounts.rows → Sized b.invoices.ids b.invoices.rows → WholeDeals b.offers → book_test b ≡ true → Shelved b
shelved_of b x y z e =
    let t = tests_of b e in
    record { accounts = accounts_shelf b.accounts x t.accounts; invoices = invoices_shelf b.invoices y t.invoices; offers = deals_shelf b.settings.edition b.offers z t.offers }
