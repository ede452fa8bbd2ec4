-- A row that was looked up: whether it is there, and the row, which is zero where it is not
use Rattle.table.specs.Tables.{Found}
use Rattle.table.specs.Seen.{seen, put_seen}
use Rattle.table.specs.declared.Seen.{Seen}
use Rattle.account.specs.Account.{no_account}
use Rattle.account.specs.declared.Account.{Account}

abbrev pub SeenAccount : Type 0
SeenAccount = Seen Account

abbrev pub seen_account : Found Account → SeenAccount
seen_account = seen no_account

-- the row made x, where there is one
abbrev pub put_account : SeenAccount → Account → SeenAccount
put_account = put_seen
