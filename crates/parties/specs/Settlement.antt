-- Document 01, module 4: the transfer of a settlement, on a table of accounts
use Rattle.std.specs.Prelude.{ℕ, not, ◌∷◌}
use Rattle.refusal.specs.Refusal.{◌gives◌, not_found}
use Rattle.refusal.specs.Rule.{Rule, next}
use Rattle.terms.specs.declared.Terms.{Terms}
use Rattle.table.specs.Tables.{Table, find, adjust}
use Rattle.account.specs.declared.Account.{Account}
use Rattle.account.specs.Seen.{SeenAccount}
use Rattle.account.specs.Rules.{debit_of, credit_of, accept_of}
use Rattle.account.specs.Seen.{seen_account}

abbrev pub seen_in : Table Account → ℕ → SeenAccount
seen_in t a = seen_account (find t a)

-- a rule for the row of one account, which must be there (4)
abbrev pub on_row : ℕ → (Account → Rule Account) → Table Account → Rule (Table Account)
on_row a f t = record {
  checks = (not (seen_in t a).here gives not_found) ∷ (f (seen_in t a).row).checks;
  done = adjust t a (λ old. (f (seen_in t a).row).done);
}

-- Settlement's transfer, lender to originator: allowance 9, lender balance 10, receiver 11, debit before credit if both are one row; then the lender's accepted total grows, else 11
abbrev pub settle_accounts : Table Account → ℕ → ℕ → Terms → Rule (Table Account)
settle_accounts t lender originator x =
    next (on_row lender (λ r. debit_of r x) t) (λ u.
    next (on_row originator (λ r. credit_of r x) u)
    (on_row lender (λ r. accept_of r x)))
