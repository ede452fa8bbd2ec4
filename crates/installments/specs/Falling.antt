-- Document 02, j: interest on outstanding principal.
use Rattle.std.specs.Prelude.{ℕ, zero, suc, ◌+◌, ◌-◌, ◌*◌, ◌/◌, List, [], ◌∷◌, eqb}
use Rattle.refusal.specs.Choice.{pick}

-- the list whose members from 0 are given by number
unfoldable pub listed : (ℕ → ℕ) → ℕ → List ℕ
listed f zero = []
listed f (suc n) = f 0 ∷ listed (λ (k : ℕ). f (suc k)) n

-- what is not repaid before member k: each before it repays floor(amount/count)
unfoldable pub outstanding : ℕ → ℕ → ℕ → ℕ
outstanding amount count k = amount - k * (amount / count)

-- each repays floor(amount/count) principal, the last the rest
unfoldable pub principal : ℕ → ℕ → ℕ → ℕ
principal amount count k = pick (eqb (k + 1) count) (outstanding amount count k) (amount / count)

-- floor(outstanding×rate/10,000/count), as a single floor
unfoldable pub interest : ℕ → ℕ → ℕ → ℕ → ℕ
interest amount rate count k = outstanding amount count k * rate / (10000 * count)

unfoldable pub falling_member : ℕ → ℕ → ℕ → ℕ → ℕ
falling_member amount rate count k = principal amount count k + interest amount rate count k

unfoldable pub falling : ℕ → ℕ → ℕ → List ℕ
falling amount rate count = listed (falling_member amount rate count) count
