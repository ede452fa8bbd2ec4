-- The book as tables of rows by id with its totals and settings; what is looked up in it, and its parts put anew.
use Rattle.std.specs.Prelude.{ℕ, []}
use Rattle.refusal.specs.Rule.{Rule}
use Rattle.table.specs.Tables.{Table, find, adjust}
use Rattle.table.specs.Named.{find_by}
use Rattle.table.specs.Named.{Named}
use Rattle.account.specs.declared.Account.{Account}
use Rattle.account.specs.Seen.{SeenAccount}
use Rattle.invoice.specs.declared.Invoice.{Invoice}
use Rattle.invoice.specs.Seen.{SeenInvoice}
use Rattle.offer.specs.declared.Deal.{Deal}
use Rattle.offer.specs.Seen.{SeenDeal}
use Rattle.settings.specs.declared.Settings.{Settings}
use Rattle.totals.specs.declared.Totals.{Totals}
use Rattle.settings.specs.Settings.{fresh_settings}
use Rattle.totals.specs.Totals.{no_totals}
use Rattle.account.specs.Seen.{seen_account}
use Rattle.invoice.specs.Seen.{seen_invoice}
use Rattle.offer.specs.Seen.{seen_deal}

pub record Model : Type 0 where
  pub accounts : Table Account
  pub invoices : Table Invoice
  pub offers : Table Deal
  pub totals : Totals
  pub settings : Settings

-- no rows, in an edition
abbrev pub fresh_model : ℕ → Model
fresh_model e = record { accounts = []; invoices = []; offers = []; totals = no_totals; settings = fresh_settings e }

-- ── Lookups: whether a row is there, and the row, which is zero where it is not ──
abbrev pub account_in : Model → ℕ → SeenAccount
account_in m a = seen_account (find m.accounts a)

abbrev pub invoice_in : Model → ℕ → SeenInvoice
invoice_in m i = seen_invoice (find m.invoices i)

abbrev pub offer_in : Model → ℕ → SeenDeal
offer_in m o = seen_deal (find m.offers o)

-- by key
abbrev pub account_by : Model → Named → SeenAccount
account_by m k = seen_account (find_by m.accounts k)

abbrev pub invoice_by : Model → Named → SeenInvoice
invoice_by m k = seen_invoice (find_by m.invoices k)

abbrev pub offer_by : Model → Named → SeenDeal
offer_by m k = seen_deal (find_by m.offers k)

-- the invoice that an offer is on
abbrev pub paper_of : Model → ℕ → SeenInvoice
paper_of m o = invoice_in m (offer_in m o).row.offer.invoice

-- ── Parts put anew ────────────────────────────────────────────────
abbrev pub with_accounts : Table Account → Model → Model
with_accounts t m = record { accounts = t; invoices = m.invoices; offers = m.offers; totals = m.totals; settings = m.settings }

abbrev pub with_invoices : Table Invoice → Model → Model
with_invoices t m = record { accounts = m.accounts; invoices = t; offers = m.offers; totals = m.totals; settings = m.settings }

abbrev pub with_offers : Table Deal → Model → Model
with_offers t m = record { accounts = m.accounts; invoices = m.invoices; offers = t; totals = m.totals; settings = m.settings }

abbrev pub with_totals : Totals → Model → Model
with_totals t m = record { accounts = m.accounts; invoices = m.invoices; offers = m.offers; totals = t; settings = m.settings }

abbrev pub with_settings : Settings → Model → Model
with_settings s m = record { accounts = m.accounts; invoices = m.invoices; offers = m.offers; totals = m.totals; settings = s }

-- ── A rule for one part of the book is a rule for the book ────────
abbrev pub on_account : Model → ℕ → Rule Account → Rule Model
on_account m a u = record { checks = u.checks; done = with_accounts (adjust m.accounts a (λ old. u.done)) m }

abbrev pub on_invoice : Model → ℕ → Rule Invoice → Rule Model
on_invoice m i u = record { checks = u.checks; done = with_invoices (adjust m.invoices i (λ old. u.done)) m }

abbrev pub on_offer : Model → ℕ → Rule Deal → Rule Model
on_offer m o u = record { checks = u.checks; done = with_offers (adjust m.offers o (λ old. u.done)) m }

abbrev pub on_totals : Model → Rule Totals → Rule Model
on_totals m u = record { checks = u.checks; done = with_totals u.done m }

abbrev pub on_settings : Model → Rule Settings → Rule Model
on_settings m u = record { checks = u.checks; done = with_settings u.done m }
