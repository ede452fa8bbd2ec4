-- What a passed list of checks says, check by check, and the rows that were looked up. Assumes nothing.
use Rattle.std.specs.Prelude.{◌≡◌, refl, false, not, List, [], ◌∷◌, ◌++◌}
use Rattle.refusal.specs.Refusal.{Check, first}
use Rattle.refusal.specs.RuleLaws.{passed}
use Rattle.table.specs.Tables.{Found, absent, here}
use Rattle.account.specs.declared.Account.{Account}
use Rattle.invoice.specs.declared.Invoice.{Invoice}
use Rattle.offer.specs.declared.Deal.{Deal}
use Rattle.account.specs.Seen.{seen_account}
use Rattle.invoice.specs.Seen.{seen_invoice}
use Rattle.offer.specs.Seen.{seen_deal}

abbrev pub Passes : List Check → Type 0
Passes [] = Unit {0}
Passes (k ∷ ks) = (k.0 ≡ false) × Passes ks

pub all_pass_lem : (l : List Check) → first l ≡ 0 → Passes l
all_pass_lem [] e = tt
all_pass_lem (k ∷ ks) e = let p = passed k.0 k.1 ks e in (p.0, all_pass_lem ks p.1)

-- of two parts, one after the other
pub passes_left : (a b : List Check) → Passes (a ++ b) → Passes a
passes_left [] b p = tt
passes_left (k ∷ ks) b p = (p.0, passes_left ks b p.1)

pub passes_right : (a b : List Check) → Passes (a ++ b) → Passes b
passes_right [] b p = p
passes_right (k ∷ ks) b p = passes_right ks b p.1

pub account_there : (s : Found Account) → not (seen_account s).here ≡ false → s ≡ here (seen_account s).row
account_there absent e = cc
account_there (here r) e = refl

pub invoice_there : (s : Found Invoice) → not (seen_invoice s).here ≡ false → s ≡ here (seen_invoice s).row
invoice_there absent e = cc
invoice_there (here r) e = refl

pub offer_there : (s : Found Deal) → not (seen_deal s).here ≡ false → s ≡ here (seen_deal s).row
offer_there absent e = cc
offer_there (here d) e = refl
