-- Document 01's number and values for each case of each answer
use Rattle.std.specs.Prelude.{ℕ, Option, Some, None, Result, List, []}
use Rattle.refusal.specs.declared.Refusal.{Refusal}
use Rattle.refusal.specs.Rule.{said}
use Rattle.installments.specs.declared.Due.{Due}
use Rattle.negotiation.specs.Rounds.{no_negotiation}
use Rattle.negotiation.specs.declared.Negotiation.{Negotiation}
use Rattle.lists.specs.declared.OfferNumbers.{OfferNumbers}
use Rattle.lists.specs.Listing.{Reply, reply_of, one_value, in_order}
use Rattle.query.specs.declared.ScheduleNumbers.{ScheduleNumbers}
use Rattle.query.specs.declared.LenderNumbers.{LenderNumbers}
use Rattle.query.specs.declared.TotalsNumbers.{TotalsNumbers}
use Rattle.query.specs.Reads.{due_order, lender_order, schedule_order, totals_order}

abbrev pub number_says : Result ℕ Refusal → Reply
number_says r = reply_of one_value r

abbrev pub due_values : Due → List ℕ
due_values d = due_order (d.number, d.owed)

abbrev pub installment_says : Result Due Refusal → Reply
installment_says r = reply_of due_values r

abbrev pub offer_says : Result OfferNumbers Refusal → Reply
offer_says r = reply_of in_order r

-- no values where there is no schedule
abbrev pub schedule_row : Option ScheduleNumbers → List ℕ
schedule_row None = []
schedule_row (Some n) = schedule_order n

abbrev pub schedule_says : Result (Option ScheduleNumbers) Refusal → Reply
schedule_says r = reply_of schedule_row r

abbrev pub lender_says : Result LenderNumbers Refusal → Reply
lender_says r = reply_of lender_order r

abbrev pub totals_says : Result TotalsNumbers Refusal → Reply
totals_says r = reply_of totals_order r

abbrev pub negotiation_told : ℕ → Negotiation → ℕ × Negotiation
negotiation_told n g = (n, g)

-- a refusal's number has an empty negotiation beside it
abbrev pub negotiation_says : Result Negotiation Refusal → ℕ × Negotiation
negotiation_says r = said negotiation_told no_negotiation r
