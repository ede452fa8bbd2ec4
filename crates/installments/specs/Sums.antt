-- Document 02, i and j: the due rule, over any list of installments.
use Rattle.std.specs.Prelude.{ℕ, zero, suc, ◌+◌, ◌-◌, List, [], ◌∷◌, leb}
use Rattle.refusal.specs.Choice.{pick}

-- the sum up to an installment: the first k of them together
unfoldable pub sum_to : ℕ → List ℕ → ℕ
sum_to zero l = 0
sum_to (suc k) [] = 0
sum_to (suc k) (x ∷ l) = x + sum_to k l

-- all of them together
unfoldable pub sum_of : List ℕ → ℕ
sum_of [] = 0
sum_of (x ∷ l) = x + sum_of l

-- how many are paid: an installment is paid only when the amount repaid reaches the sum up to it
unfoldable pub paid_of : List ℕ → ℕ → ℕ
paid_of [] repaid = 0
paid_of (x ∷ l) repaid = pick (leb x repaid) (suc (paid_of l (repaid - x))) 0

-- of the installments elapsed the first that is not paid, 0 where all are
unfoldable pub number_due : List ℕ → ℕ → ℕ → ℕ
number_due l elapsed repaid = pick (leb elapsed (paid_of l repaid)) 0 (paid_of l repaid + 1)

-- the sum up to it minus the amount repaid; nothing is summed up to 0, so 0 with number 0
unfoldable pub owed_on : List ℕ → ℕ → ℕ → ℕ
owed_on l elapsed repaid = sum_to (number_due l elapsed repaid) l - repaid

unfoldable pub due_of : List ℕ → ℕ → ℕ → ℕ × ℕ
due_of l elapsed repaid = (number_due l elapsed repaid, owed_on l elapsed repaid)
