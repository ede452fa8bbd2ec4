-- Document 01, "Where each form belongs": a signed difference posted to one account's row.
use Rattle.std.specs.Prelude.{cond, not, List, [], ◌∷◌, ℤ, ◌+ℤ◌}
use Rattle.money.specs.Range.{movable}
use Rattle.refusal.specs.Refusal.{Check, ◌gives◌, out_of_range}
use Rattle.account.specs.declared.Purse.{Purse}

-- the purse with another offered total, and every other field as it was
abbrev pub with_offered : Purse → ℤ → Purse
with_offered p z = record { balance = p.balance; allowance = p.allowance; offered = z; accepted = p.accepted }

-- whether a difference can be posted to the purse, and the purse after it
abbrev pub post_checks : Purse → ℤ → List Check
post_checks p d = (not (movable p.offered d) gives out_of_range) ∷ []

abbrev pub posted_to : Purse → ℤ → Purse
posted_to p d = with_offered p (cond (movable p.offered d) (p.offered +ℤ d) p.offered)
