-- Document 02, i: the last installment carries what is left.
use Rattle.std.specs.Prelude.{ℕ, ◌+◌, ◌-◌, ◌*◌, ◌/◌, min, List, [], ◌∷◌, ◌++◌, leb, ltb, replicate}
use Rattle.refusal.specs.Choice.{pick}

-- total = amount + floor(amount×rate/10,000)
unfoldable pub total_of : ℕ → ℕ → ℕ
total_of amount rate = amount + amount * rate / 10000

-- one installment: p + floor(p×rate/10,000), where p = floor(amount/count)
unfoldable pub part_of : ℕ → ℕ → ℕ → ℕ
part_of amount rate count = amount / count + amount / count * rate / 10000

-- count−1 times x, then the total minus those
unfoldable pub flat : ℕ → ℕ → ℕ → List ℕ
flat count x total = replicate (count - 1) x ++ ((total - (count - 1) * x) ∷ [])

-- By division. The sum up to installment k, how many are paid, and what is due where n are
unfoldable pub flat_sum : ℕ → ℕ → ℕ → ℕ → ℕ
flat_sum count x total k = pick (ltb k count) (k * x) total

unfoldable pub flat_paid : ℕ → ℕ → ℕ → ℕ → ℕ
flat_paid count x total repaid = pick (leb total repaid) count (min (repaid / x) (count - 1))

unfoldable pub flat_after : ℕ → ℕ → ℕ → ℕ → ℕ → ℕ → ℕ × ℕ
flat_after count x total elapsed repaid n = pick (leb elapsed n) (0, 0) (n + 1, flat_sum count x total (n + 1) - repaid)

unfoldable pub flat_due : ℕ → ℕ → ℕ → ℕ → ℕ → ℕ × ℕ
flat_due count x total elapsed repaid = flat_after count x total elapsed repaid (flat_paid count x total repaid)
