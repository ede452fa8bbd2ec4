-- What a table's struct is after a turn that saw and left some of its rows
use Rattle.std.specs.Prelude.{◌≡◌}
use Rattle.table.specs.Tables.{Found, Table, has}
use Rattle.table.specs.Named.{find_by}
use Rattle.table.specs.Storing.{Left}
use Rattle.table.specs.Named.{Named}
use Rattle.account.specs.Seen.{seen_account}
use Rattle.account.specs.declared.Account.{Account}
use Rattle.account.specs.Seen.{SeenAccount}
use Rattle.invoice.specs.Seen.{seen_invoice}
use Rattle.invoice.specs.declared.Invoice.{Invoice}
use Rattle.invoice.specs.Seen.{SeenInvoice}
use Rattle.offer.specs.Seen.{seen_deal}
use Rattle.offer.specs.declared.Deal.{Deal}
use Rattle.offer.specs.Seen.{SeenDeal}
use Rattle.shelves.specs.declared.Accounts.{Accounts}
use Rattle.shelves.specs.declared.Invoices.{Invoices}
use Rattle.shelves.specs.declared.Offers.{Offers}
use Rattle.shelves.specs.Accounts.{accounts_of, stored_accounts}
use Rattle.shelves.specs.Invoices.{invoices_of, stored_invoices}
use Rattle.shelves.specs.Offers.{deals_of, stored_deals}

-- the row, zero where there is none
abbrev pub account_row : Found Account → Account
account_row f = (seen_account f).row

abbrev pub invoice_row : Found Invoice → Invoice
invoice_row f = (seen_invoice f).row

abbrev pub deal_row : Found Deal → Deal
deal_row f = (seen_deal f).row

-- r is whatever table the rows x at a, and y at b, were left of
abbrev pub StoresAccounts : Accounts → Named → Named → SeenAccount → Account → Accounts → Type 0
StoresAccounts s a b x y r = (u : Table Account) → Left 64 account_row (accounts_of s) u a b (has (find_by (accounts_of s) a)) x.here x.row y → r ≡ stored_accounts u

abbrev pub StoresInvoices : Invoices → Named → SeenInvoice → Invoices → Type 0
StoresInvoices s i x r = (u : Table Invoice) → Left 64 invoice_row (invoices_of s) u i i (has (find_by (invoices_of s) i)) x.here x.row x.row → r ≡ stored_invoices u

abbrev pub StoresDeals : Offers → Named → SeenDeal → Offers → Type 0
StoresDeals s o x r = (u : Table Deal) → Left 64 deal_row (deals_of s) u o o (has (find_by (deals_of s) o)) x.here x.row x.row → r ≡ stored_deals u
