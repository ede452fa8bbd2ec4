-- Document 01, "Numbers": the arguments in range, and the answer where one is not.
use Rattle.std.specs.Prelude.{ℕ, ◌-◌, ◌*◌, Bool, ◌&&◌, leb, ltb, get_or}
use Rattle.refusal.specs.Choice.{pick}
use Rattle.installments.specs.declared.Due.{Due}
use Rattle.installments.specs.Flat.{total_of}
use Rattle.installments.specs.Falling.{falling}

-- a number of installments, those of them that have elapsed, and an amount repaid
unfoldable pub due_ok : ℕ → ℕ → ℕ → Bool
due_ok count elapsed repaid = ((leb 1 count && leb count 1200) && leb elapsed count) && leb repaid 4000000000000000

-- with an installment that can be stored
unfoldable pub even_ok : ℕ → ℕ → ℕ → ℕ → Bool
even_ok count x elapsed repaid = (due_ok count elapsed repaid && leb 1 x) && leb x 2000000000000

-- and a total that leaves something for the last one
unfoldable pub flat_ok : ℕ → ℕ → ℕ → ℕ → ℕ → Bool
flat_ok count x total elapsed repaid = even_ok count x elapsed repaid && (ltb ((count - 1) * x) total && leb total 2000000000000)

-- an amount and a rate
unfoldable pub terms_ok : ℕ → ℕ → Bool
terms_ok amount rate = ((leb 1 amount && leb amount 1000000000000) && leb 1 rate) && leb rate 10000

unfoldable pub falling_ok : ℕ → ℕ → ℕ → ℕ → ℕ → Bool
falling_ok amount rate count elapsed repaid = due_ok count elapsed repaid && terms_ok amount rate

-- the answer, 0 and 0 where an argument is out of range
unfoldable pub due_as : ℕ × ℕ → Due
due_as d = record { number = d.0; owed = d.1 }

unfoldable pub due_if : Bool → ℕ × ℕ → Due
due_if ok d = pick ok (due_as d) (due_as (0, 0))

-- the same of a single number
unfoldable pub total_if : ℕ → ℕ → ℕ
total_if amount rate = pick (terms_ok amount rate) (total_of amount rate) 0

unfoldable pub first_if : ℕ → ℕ → ℕ → ℕ
first_if amount rate count = pick (falling_ok amount rate count 0 0) (get_or (falling amount rate count) 0 0) 0
