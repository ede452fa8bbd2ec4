-- The book of the code and the model: what its arrays hold, how a model is stored, and what a method answers.
use Rattle.std.specs.Prelude.{ℕ, Bool, ◌&&◌, Result, Ok, Err}
use Rattle.refusal.specs.Choice.{pick}
use Rattle.refusal.specs.declared.Refusal.{Refusal}
use Rattle.refusal.specs.Refusal.{number, journal_malformed, book_unsound}
use Rattle.refusal.specs.Rule.{answered}
use Rattle.edition.specs.Edition.{first_edition, listed}
use Rattle.settings.specs.Settings.{settings_sound}
use Rattle.totals.specs.Totals.{totals_sound}
use Rattle.shelves.specs.Accounts.{accounts_of, stored_accounts, AccountShelf, accounts_test}
use Rattle.shelves.specs.Invoices.{invoices_of, stored_invoices, InvoiceShelf, invoices_test}
use Rattle.shelves.specs.Offers.{deals_of, stored_deals, DealShelf, deals_test}
use Rattle.command.specs.declared.Command.{Command}
use Rattle.book.specs.declared.Book.{Book}
use Rattle.book.specs.declared.Step.{Step}
use Rattle.rules.specs.Model.{Model, fresh_model}
use Rattle.rules.specs.Rules.{commanded}

abbrev pub model_of : Book → Model
model_of b = record { accounts = accounts_of b.accounts; invoices = invoices_of b.invoices; offers = deals_of b.offers; totals = b.totals; settings = b.settings }

abbrev pub stored : Model → Book
stored m = record { accounts = stored_accounts m.accounts; invoices = stored_invoices m.invoices; offers = stored_deals m.offers; totals = m.totals; settings = m.settings }

abbrev pub step_of : ℕ → Model → Step
step_of n m = record { answer = n; book = stored m }

-- the number of an answer
abbrev pub number_of : Result (Unit {0}) Refusal → ℕ
number_of (Ok x) = 0
number_of (Err r) = number r

-- the arrays are tables, zero past their counts, with ids that ascend
pub record Shelved (b : Book) : Type 0 where
  pub accounts : AccountShelf b.accounts
  pub invoices : InvoiceShelf b.invoices
  pub offers : DealShelf b.offers

-- Document 01's paragraph: "A book is sound when .."
unfoldable pub book_test : Book → Bool
book_test b = (((accounts_test b.accounts && invoices_test b.invoices) && deals_test b.settings.edition b.offers) && totals_sound b.totals) && settings_sound b.settings

-- a fresh book of an edition; 13, and the first edition's, where it is not listed
unfoldable pub fresh_book : ℕ → Step
fresh_book e = pick (listed e) (step_of 0 (fresh_model e)) (step_of (number journal_malformed) (fresh_model first_edition))

-- what a command answers and leaves: 15 and the book as it was where it is not sound
unfoldable pub answers : Book → Command → Step
answers b c = pick (book_test b) (answered step_of (model_of b) (commanded (model_of b) c)) (record { answer = number book_unsound; book = b })
