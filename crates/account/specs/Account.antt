-- An account's row: the one of a new account, its parts put anew, and what a sound book holds of it.
use Rattle.std.specs.Prelude.{ℕ, ◌+◌, Bool, false, not, ◌&&◌, leb, eqb, ℤ}
use Rattle.money.specs.Range.{count_limit}
use Rattle.account.specs.declared.Purse.{Purse}
use Rattle.account.specs.declared.Account.{Account}
use Rattle.account.specs.Purse.{no_purse, reoffers, purse_sound, purse_zero}

abbrev pub no_account : Account
no_account = record { purse = no_purse; pending = 0; repaid = 0; blacklisted = false }

-- what is done to the purse, done to the row
abbrev pub with_purse : (Purse → Purse) → Account → Account
with_purse f r = record { purse = f r.purse; pending = r.pending; repaid = r.repaid; blacklisted = r.blacklisted }

abbrev pub offers : ℤ → ℕ → Account → Account
offers x n r = record { purse = reoffers x r.purse; pending = r.pending + n; repaid = r.repaid; blacklisted = r.blacklisted }

abbrev pub repays : ℕ → Account → Account
repays n r = record { purse = r.purse; pending = r.pending; repaid = r.repaid + n; blacklisted = r.blacklisted }

abbrev pub lists : Bool → Account → Account
lists b r = record { purse = r.purse; pending = r.pending; repaid = r.repaid; blacklisted = b }

unfoldable pub account_sound : Account → Bool
account_sound r = (purse_sound r.purse && leb r.pending count_limit) && leb r.repaid count_limit

unfoldable pub account_zero : Account → Bool
account_zero r = ((purse_zero r.purse && eqb r.pending 0) && eqb r.repaid 0) && not r.blacklisted
