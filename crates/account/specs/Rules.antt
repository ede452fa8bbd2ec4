-- Document 01, modules 4 and 5: what is asked of one account's row, in order, and the row after it.
use Rattle.std.specs.Prelude.{ℕ, ◌+◌, Bool, not, List, [], ◌∷◌, ◌++◌, leb, ltb, eqb, ℤ, ◌-ℤ◌, neg_ℤ}
use Rattle.money.specs.Range.{count_limit, in_amount, in_total, movable}
use Rattle.refusal.specs.Refusal.{Check, ◌gives◌, invalid_input, not_found, unauthorized, allowance_short, balance_short, out_of_range}
use Rattle.refusal.specs.Rule.{Rule}
use Rattle.terms.specs.declared.Terms.{Terms}
use Rattle.account.specs.declared.Account.{Account}
use Rattle.account.specs.Seen.{SeenAccount}
use Rattle.account.specs.Purse.{gains, allows, reoffers, pays, accepts}
use Rattle.account.specs.Account.{with_purse, offers, repays, lists}

-- deposit amount 3, 11
abbrev pub deposit_of : Account → ℤ → Rule Account
deposit_of r x = record {
  checks = (not (in_amount x) gives invalid_input) ∷ (not (movable r.purse.balance x) gives out_of_range) ∷ [];
  done = with_purse (gains x) r;
}

-- payout amount 3, 10
abbrev pub payout_of : Account → ℤ → Rule Account
payout_of r x = record {
  checks = (not (in_amount x) gives invalid_input) ∷ (not (movable r.purse.balance (neg_ℤ x)) gives balance_short) ∷ [];
  done = with_purse (gains (neg_ℤ x)) r;
}

-- approve (0 to 4×10^15) 3
abbrev pub approve_of : Account → ℤ → Rule Account
approve_of r x = record { checks = (not (in_total x) gives invalid_input) ∷ []; done = with_purse (allows x) r }

-- create: the offered total grows, the lender's offers_pending by 1, else 11
abbrev pub offer_of : Account → Terms → Rule Account
offer_of r t = record {
  checks = (not (movable r.purse.offered t.amount) gives out_of_range) ∷ (leb count_limit r.pending gives out_of_range) ∷ [];
  done = offers t.amount 1 r;
}

-- amend: the offered total moves by the new amount minus the old, else 11
abbrev pub reoffer_of : Account → Terms → Terms → Rule Account
reoffer_of r old new = record {
  checks = (not (movable r.purse.offered (new.amount -ℤ old.amount)) gives out_of_range) ∷ [];
  done = with_purse (reoffers (new.amount -ℤ old.amount)) r;
}

-- settlement, the lender's side: allowance 9, balance 10; both fall by the amount
abbrev pub debit_of : Account → Terms → Rule Account
debit_of r t = record {
  checks =
      (not (movable r.purse.allowance (neg_ℤ t.amount)) gives allowance_short)
      ∷ (not (movable r.purse.balance (neg_ℤ t.amount)) gives balance_short)
      ∷ [];
  done = with_purse (pays (neg_ℤ t.amount)) r;
}

-- settlement, the originator's side: 11
abbrev pub credit_of : Account → Terms → Rule Account
credit_of r t = record {
  checks = (not (movable r.purse.balance t.amount) gives out_of_range) ∷ [];
  done = with_purse (gains t.amount) r;
}

-- settlement: the lender's accepted total grows, else 11
abbrev pub accept_of : Account → Terms → Rule Account
accept_of r t = record {
  checks = (not (movable r.purse.accepted t.amount) gives out_of_range) ∷ [];
  done = with_purse (accepts t.amount) r;
}

-- a flag set on an account by another: caller or seats 6; a flag above 1 3; account 4
abbrev pub flag_checks : SeenAccount → Bool → ℕ → List Check
flag_checks s allowed flag = (not allowed gives unauthorized) ∷ (ltb 1 flag gives invalid_input) ∷ (not s.here gives not_found) ∷ []

-- repayment's third update: caller 6; flag 3; row 4; 11. The flag is added to offers_repaid
abbrev pub lender_repaid_of : SeenAccount → Bool → ℕ → Rule Account
lender_repaid_of s allowed flag = record {
  checks = flag_checks s allowed flag ++ ((ltb count_limit (s.row.repaid + flag) gives out_of_range) ∷ []);
  done = repays flag s.row;
}

-- blacklist: seats 6; a code above 1 3; account 4
abbrev pub blacklist_of : SeenAccount → Bool → ℕ → Rule Account
blacklist_of s allowed code = record { checks = flag_checks s allowed code; done = lists (eqb code 1) s.row }
