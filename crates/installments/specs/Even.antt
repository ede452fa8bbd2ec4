-- Document 01, module 1: the installments of the editions before 5, all the same, so that how many are paid is a quotient.
use Rattle.std.specs.Prelude.{ℕ, ◌+◌, ◌-◌, ◌*◌, ◌/◌, List, leb, replicate}
use Rattle.refusal.specs.Choice.{pick}

-- count times x
unfoldable pub even : ℕ → ℕ → List ℕ
even count x = replicate count x

-- paid = floor(repaid/installment); 0 if paid ≥ elapsed, else paid+1
unfoldable pub by_quotient : ℕ → ℕ → ℕ → ℕ
by_quotient x elapsed repaid = pick (leb elapsed (repaid / x)) 0 (repaid / x + 1)

-- what is due by that rule, with what is owed on it
unfoldable pub even_due : ℕ → ℕ → ℕ → ℕ × ℕ
even_due x elapsed repaid = pick (leb elapsed (repaid / x)) (0, 0) (repaid / x + 1, (repaid / x + 1) * x - repaid)
