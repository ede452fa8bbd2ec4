-- Document 01, "Journal and replay": the lines that a replay prints, byte for byte. A stored amount is from 0 up; were one below, it would be printed as 0.
use Rattle.std.specs.Prelude.{List, [], ◌∷◌, ◌++◌, ℕ}
use Rattle.refusal.specs.Refusal.{number, journal_malformed}
use Rattle.money.specs.Range.{magnitude_of}
use Rattle.table.specs.Tables.{Table}
use Rattle.account.specs.declared.Account.{Account}
use Rattle.totals.specs.declared.Totals.{Totals}
use Rattle.sheet.specs.Decimal.{decimal_of, numbers_of}

-- "edition", "account", "totals"
abbrev pub edition_word : List ℕ
edition_word = 101 ∷ 100 ∷ 105 ∷ 116 ∷ 105 ∷ 111 ∷ 110 ∷ []

abbrev pub account_word : List ℕ
account_word = 97 ∷ 99 ∷ 99 ∷ 111 ∷ 117 ∷ 110 ∷ 116 ∷ []

abbrev pub totals_word : List ℕ
totals_word = 116 ∷ 111 ∷ 116 ∷ 97 ∷ 108 ∷ 115 ∷ []

-- the edition of a journal's rules (document 02, e)
unfoldable pub edition_line : ℕ → List ℕ
edition_line e = edition_word ++ numbers_of (e ∷ [])

-- a record's number and its answer
unfoldable pub answer_line : ℕ → ℕ → List ℕ
answer_line n answer = decimal_of n ++ numbers_of (answer ∷ [])

-- a malformed record prints its number, 13 and the offset
unfoldable pub mark_line : ℕ → ℕ → List ℕ
mark_line n at = decimal_of n ++ numbers_of (number journal_malformed ∷ at ∷ [])

-- columns: balance, allowance, offered, accepted
unfoldable pub account_line : ℕ → Account → List ℕ
account_line id r = account_word ++ numbers_of (id ∷ magnitude_of r.purse.balance ∷ magnitude_of r.purse.allowance ∷ magnitude_of r.purse.offered ∷ magnitude_of r.purse.accepted ∷ [])

-- the accounts in the table's order, which is that of their ids
unfoldable pub account_lines : Table Account → List ℕ
account_lines [] = []
account_lines (e ∷ t) = account_line e.0 e.1 ++ account_lines t

-- columns: financed, repaid, fees
unfoldable pub totals_line : Totals → List ℕ
totals_line t = totals_word ++ numbers_of (magnitude_of t.financed ∷ magnitude_of t.repaid ∷ magnitude_of t.fees ∷ [])
