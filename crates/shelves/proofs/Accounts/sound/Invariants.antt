use Rattle.table.specs.Test.{row_test}
use Rattle.table.specs.All.{Checked}
use Rattle.account.specs.Account.{no_account, account_sound, account_zero}
use Rattle.shelves.proofs.Accounts.sound.Given as goal

abbrev pub invariant-loop-i : goal.invariant-loop-i
invariant-loop-i l = Checked 64 (row_test account_sound account_zero no_account l.self.count l.self.rows) l.i l.ok
