-- Document 01, module 1, and document 02, j: the installment of an offer's terms over a number of installments.
use Rattle.std.specs.Prelude.{ℕ, ◌/◌, Bool, true, ◌&&◌, ◌||◌, eqb, ℤ, pos, Option, Some, None}
use Rattle.refusal.specs.Choice.{pick}
use Rattle.refusal.specs.Refusal.{number, invalid_input}
use Rattle.money.specs.Range.{is_zero, magnitude_of}
use Rattle.terms.specs.declared.Terms.{Terms}
use Rattle.terms.specs.Terms.{terms_ok, count_ok}
use Rattle.terms.specs.Kind.{falling_kind, kind_listed, first_of}

-- the first of the kind's, which a schedule stores
unfoldable pub installment_amount : Terms → ℕ → ℕ → ℕ
installment_amount t kind count = first_of kind (magnitude_of t.amount) t.rate count

-- the number of the answer and its value, or 3 where an argument is out of range
unfoldable pub installment_of : Terms → ℕ → ℕ → ℕ × ℤ
installment_of t kind count = pick ((terms_ok t && count_ok count) && kind_listed true kind) (0, pos (installment_amount t kind count)) (number invalid_input, pos 0)

-- installment 0, or falling with floor(amount/count) = 0: no schedule can be made
unfoldable pub none_to_pay : Terms → ℕ → ℕ → Bool
none_to_pay t kind count = is_zero (installment_of t kind count).1 || (eqb kind falling_kind && eqb (magnitude_of t.amount / count) 0)

-- what an answer says in those terms
abbrev pub installment_says : Option ℤ → ℕ × ℤ
installment_says (Some x) = (0, x)
installment_says None = (number invalid_input, pos 0)
