-- Document 02, j: the kinds of schedule, and the installment that one of them stores.
use Rattle.std.specs.Prelude.{ℕ, Bool, ◌&&◌, ◌||◌, eqb, get_or}
use Rattle.refusal.specs.Choice.{pick}
use Rattle.installments.specs.Flat.{part_of}
use Rattle.installments.specs.Falling.{falling}

abbrev pub flat_kind : ℕ
flat_kind = 0

abbrev pub falling_kind : ℕ
falling_kind = 1

-- before edition 5, which keeps a schedule's terms, there is the flat one alone
unfoldable pub kind_listed : Bool → ℕ → Bool
kind_listed kept kind = eqb kind flat_kind || (kept && eqb kind falling_kind)

-- of a falling schedule the first of its installments; of a flat one document 01's p + y, where p = floor(amount/count) and y = floor(p×rate/10,000)
unfoldable pub first_of : ℕ → ℕ → ℕ → ℕ → ℕ
first_of kind amount rate count = pick (eqb kind falling_kind) (get_or (falling amount rate count) 0 0) (part_of amount rate count)
