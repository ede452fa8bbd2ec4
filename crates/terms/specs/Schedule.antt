-- Document 01, "Numbers": the periods by their codes, the numbers of a schedule; document 02, i and j: what it keeps, its kind, and its installments.
use Rattle.std.specs.Prelude.{ℕ, Bool, true, ◌&&◌, cond, List, leb, eqb, ℤ, pos, Option, Some, None}
use Rattle.refusal.specs.Choice.{pick}
use Rattle.refusal.specs.Refusal.{number, invalid_input}
use Rattle.money.specs.Range.{in_installment, is_zero, same_amount, magnitude_of}
use Rattle.installments.specs.Even.{even}
use Rattle.installments.specs.Flat.{flat, total_of}
use Rattle.installments.specs.Falling.{falling}
use Rattle.terms.specs.declared.Terms.{Terms}
use Rattle.terms.specs.declared.Schedule.{Schedule}
use Rattle.terms.specs.Terms.{price_ok, count_ok}
use Rattle.terms.specs.Kind.{flat_kind, falling_kind, kind_listed, first_of}

abbrev pub period_listed : ℕ → Bool
period_listed code = leb 1 code && leb code 3

-- weekly, fortnightly, thirty days; no other code is listed
unfoldable pub seconds_of : ℕ → ℕ
seconds_of code = pick (eqb code 1) 604800 (pick (eqb code 2) 1209600 (pick (eqb code 3) 2592000 0))

-- the number of the answer and its value, 3 for an unlisted code
unfoldable pub period_of : ℕ → ℕ × ℕ
period_of code = pick (period_listed code) (0, seconds_of code) (number invalid_input, 0)

abbrev pub period_says : Option ℕ → ℕ × ℕ
period_says (Some n) = (0, n)
period_says None = (number invalid_input, 0)

-- ── A schedule that was made, and none ────────────────────────────
-- from edition 5 on it keeps the amount and the rate of the terms that it was made of, has one of the kinds, and stores their first installment (02 i, j)
unfoldable pub keeps_ok : Schedule → Bool
keeps_ok s = (price_ok s.amount s.rate && kind_listed true s.kind) && same_amount s.installment (pos (first_of s.kind (magnitude_of s.amount) s.rate s.count))

-- before it keeps none, and is flat
unfoldable pub keeps_none : Schedule → Bool
keeps_none s = (is_zero s.amount && eqb s.rate 0) && eqb s.kind flat_kind

-- its numbers in range
unfoldable pub schedule_in : Schedule → Bool
schedule_in s = (count_ok s.count && period_listed s.code) && in_installment s.installment

unfoldable pub schedule_ok : Bool → Schedule → Bool
schedule_ok kept s = schedule_in s && cond kept (keeps_ok s) (keeps_none s)

unfoldable pub schedule_none : Schedule → Bool
schedule_none s = ((eqb s.count 0 && eqb s.code 0) && is_zero s.installment) && eqb s.first 0

unfoldable pub schedule_zero : Schedule → Bool
schedule_zero s = schedule_none s && keeps_none s

-- the one of an offer's terms
abbrev pub made_of : Bool → Terms → ℕ → ℕ → ℕ → ℕ → ℤ → Schedule
made_of kept t kind count code first installment = record {
  count = count;
  code = code;
  installment = installment;
  first = first;
  amount = cond kept t.amount (pos 0);
  rate = cond kept t.rate 0;
  kind = kind;
}

-- ── Its installments ──────────────────────────────────────────────
-- with interest on outstanding principal, or all the stored one but the last, which carries what is left of the total
unfoldable pub kept_installments : Schedule → List ℕ
kept_installments s =
    pick (eqb s.kind falling_kind)
    (falling (magnitude_of s.amount) s.rate s.count)
    (flat s.count (magnitude_of s.installment) (total_of (magnitude_of s.amount) s.rate))

-- before edition 5 each is the stored one
unfoldable pub installments_of : Bool → Schedule → List ℕ
installments_of kept s = cond kept (kept_installments s) (even s.count (magnitude_of s.installment))
