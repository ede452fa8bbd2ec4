-- What is seen of a table of accounts at two keys
use Rattle.std.specs.Prelude.{ℕ, ◌≡◌, Bool, true, not, cond, Some, Result, Ok, Err}
use Rattle.refusal.specs.declared.Refusal.{Refusal}
use Rattle.refusal.specs.Refusal.{not_found}
use Rattle.refusal.specs.Rule.{Rule, outcome, on_done, then_of}
use Rattle.terms.specs.declared.Terms.{Terms}
use Rattle.refusal.specs.Choice.{pick}
use Rattle.table.specs.Tables.{Table}
use Rattle.table.specs.Named.{Named, same, find_by}
use Rattle.account.specs.Seen.{put_account, seen_account}
use Rattle.account.specs.declared.Account.{Account}
use Rattle.account.specs.Seen.{SeenAccount}
use Rattle.account.specs.Rules.{debit_of, credit_of, accept_of}
use Rattle.parties.specs.Settlement.{settle_accounts}
use Rattle.parties.specs.declared.Parties.{Parties}

abbrev pub put_first : Parties → Account → Parties
put_first p x = record { first = put_account p.first x; second = pick p.one (put_account p.first x) p.second; one = p.one }

abbrev pub put_second : Parties → Account → Parties
put_second p x = record { first = pick p.one (put_account p.second x) p.first; second = put_account p.second x; one = p.one }

-- the first is the second, and the other way round
abbrev pub turned : Parties → Parties
turned p = record { first = p.second; second = p.first; one = p.one }

-- a row let in at the first place
abbrev pub let_in : Parties → Account → Parties
let_in p x = record { first = record { here = true; row = x }; second = pick p.one (record { here = true; row = x }) p.second; one = p.one }

unfoldable pub side_of : Parties → Bool → SeenAccount
side_of p first = pick first p.first p.second

abbrev pub seen_by : Table Account → Named → SeenAccount
seen_by t k = seen_account (find_by t k)

abbrev pub parties_by : Named → Named → Table Account → Parties
parties_by a b t = record { first = seen_by t a; second = seen_by t b; one = same a b }

abbrev pub parties_of : ℕ → ℕ → Table Account → Parties
parties_of a b t = parties_by (Some a) (Some b) t

-- a row that must be there
abbrev pub found_of : SeenAccount → Result Account Refusal
found_of s = cond (not s.here) (Err not_found) (Ok s.row)

-- a rule for the first row, and for the second
abbrev pub on_first : (Account → Rule Account) → Parties → Result Parties Refusal
on_first f p = then_of (found_of p.first) (λ r. on_done (put_first p) (outcome (f r)))

abbrev pub on_second : (Account → Rule Account) → Parties → Result Parties Refusal
on_second f p = then_of (found_of p.second) (λ r. on_done (put_second p) (outcome (f r)))

-- the first pays the second
abbrev pub settling : Terms → Parties → Result Parties Refusal
settling t p =
    then_of (on_first (λ r. debit_of r t) p) (λ q.
    then_of (on_second (λ r. credit_of r t) q)
    (on_first (λ r. accept_of r t)))

-- ── Settlement, where the first lends, or the second ──────────────
abbrev pub first_of : Bool → ℕ → ℕ → ℕ
first_of lends lender originator = pick lends lender originator

abbrev pub second_of : Bool → ℕ → ℕ → ℕ
second_of lends lender originator = pick lends originator lender

abbrev pub Settles : Bool → Parties → Terms → Result Parties Refusal → Type 0
Settles lends p t r = (a b : ℕ) (u : Table Account) → p ≡ parties_of (first_of lends a b) (second_of lends a b) u → r ≡ on_done (parties_of (first_of lends a b) (second_of lends a b)) (outcome (settle_accounts u a b t))
