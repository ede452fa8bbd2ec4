-- Document 01, module 1, `get_installment_due`, and document 02, i: the number of the installment that is due, and the sum still owed on it.
use Rattle.std.specs.Prelude.{ℕ, ◌+◌, ◌-◌, ◌/◌, min, Bool, ◌&&◌, ℤ, ltb, eqb, Option, Some, None}
use Rattle.refusal.specs.Choice.{pick}
use Rattle.refusal.specs.Refusal.{number, invalid_input}
use Rattle.money.specs.Range.{in_total, magnitude_of}
use Rattle.installments.specs.declared.Due.{Due}
use Rattle.installments.specs.Sums as Sums
use Rattle.terms.specs.declared.Schedule.{Schedule}
use Rattle.terms.specs.Status.{status_repaid, status_defaulted, status_listed}
use Rattle.terms.specs.Schedule.{seconds_of, schedule_ok, installments_of}

-- elapsed = min(floor((now−first_due)/period)+1, count)
unfoldable pub elapsed_of : ℕ → ℕ → ℕ → ℕ
elapsed_of since period count = min (since / period + 1) count

-- 0 for Repaid or Defaulted, or now < first_due; else the first of the elapsed installments that is not paid, and what is owed on it
unfoldable pub owed_at : Bool → Schedule → ℕ → ℤ → ℕ → ℕ × ℕ
owed_at kept s status repaid now =
    pick (eqb status status_repaid) (0, 0)
    (pick (eqb status status_defaulted) (0, 0)
    (pick (ltb now s.first) (0, 0)
    (Sums.due_of (installments_of kept s) (elapsed_of (now - s.first) (seconds_of s.code) s.count) (magnitude_of repaid))))

unfoldable pub due_arguments : Bool → Schedule → ℕ → ℤ → Bool
due_arguments kept s status repaid = (schedule_ok kept s && status_listed status) && in_total repaid

-- the number of the answer and its two values; arguments out of range give 3 first
unfoldable pub due_of : Bool → Schedule → ℕ → ℤ → ℕ → ℕ × (ℕ × ℕ)
due_of kept s status repaid now = pick (due_arguments kept s status repaid) (0, owed_at kept s status repaid now) (number invalid_input, (0, 0))

abbrev pub due_says : Option Due → ℕ × (ℕ × ℕ)
due_says (Some d) = (0, (d.number, d.owed))
due_says None = (number invalid_input, (0, 0))
