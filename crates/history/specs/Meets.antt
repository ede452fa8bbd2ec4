-- Document 01, "History sums": what demand 3 says of a book, that its figures are the sums of a history.
use Rattle.std.specs.Prelude.{ℕ, ◌≡◌, List}
use Rattle.command.specs.declared.Command.{Command}
use Rattle.rules.specs.Model.{Model, account_in}
use Rattle.history.specs.History.{read, sum, offered, accepted, balance, financed, together}

pub record Meets (h : List Command) (m : Model) : Type 0 where
  pub offereds : (a : ℕ) → (account_in m a).row.purse.offered ≡ offered (read h) a
  pub accepteds : (a : ℕ) → (account_in m a).row.purse.accepted ≡ accepted (read h) a
  pub balances : (a : ℕ) → (account_in m a).row.purse.balance ≡ balance (read h) a
  pub all_balances : sum (λ e. e.1.purse.balance) m.accounts ≡ together (read h)
  pub financed_total : m.totals.financed ≡ financed (read h)
