-- The table of accounts: the rows by id that its arrays hold, how a table is stored in them, and the test of a sound one.
use Rattle.std.specs.Prelude.{ℕ, Bool, ◌&&◌, List}
use Rattle.table.specs.Tables.{Table}
use Rattle.table.specs.Shelf.{table_of, shelve, Shelf}
use Rattle.table.specs.Test.{ids_test, rows_test}
use Rattle.account.specs.Account.{no_account, account_sound, account_zero}
use Rattle.account.specs.declared.Account.{Account}
use Rattle.shelves.specs.declared.Accounts.{Accounts}

abbrev pub accounts_of : Accounts → Table Account
accounts_of a = table_of a.ids a.rows a.count

abbrev pub as_accounts : List ℕ → List Account → ℕ → Accounts
as_accounts i r c = record { ids = i; rows = r; count = c }

abbrev pub stored_accounts : Table Account → Accounts
stored_accounts t = shelve as_accounts no_account 64 t

abbrev pub AccountShelf : Accounts → Type 0
AccountShelf a = Shelf no_account 64 a.ids a.rows a.count

-- at most 64 rows, ids that ascend strictly, numbers in range, unused rows zero
unfoldable pub accounts_test : Accounts → Bool
accounts_test a = ids_test 64 a.count a.ids && rows_test account_sound account_zero no_account 64 a.count a.rows
