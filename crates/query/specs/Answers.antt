-- What an answer says leaves one answer, so each query has one. Assumes nothing.
use Rattle.std.specs.Prelude.{ℕ, ◌≡◌, refl, Bool, true, false, Option, Some, None, Result, Ok, Err, List, [], ◌∷◌, get_or}
use Rattle.std.proofs.Common.{sym, ap, ◌∙◌, arith, eq-eqb}
use Rattle.refusal.specs.declared.Refusal.{Refusal}
use Rattle.refusal.specs.Refusal.{number}
use Rattle.refusal.specs.RefusalLaws.{refusal_not-0}
use Rattle.negotiation.specs.declared.Negotiation.{Negotiation}
use Rattle.installments.specs.declared.Due.{Due}
use Rattle.lists.specs.declared.OfferNumbers.{OfferNumbers}
use Rattle.lists.specs.Listing.{one_value, in_order}
use Rattle.lists.specs.Answers.{one_reply, one_refusal}
use Rattle.query.specs.declared.ScheduleNumbers.{ScheduleNumbers}
use Rattle.query.specs.declared.LenderNumbers.{LenderNumbers}
use Rattle.query.specs.declared.TotalsNumbers.{TotalsNumbers}
use Rattle.query.specs.Reads.{lender_order, totals_order}
use Rattle.query.specs.Questions.{answered_says}
use Rattle.query.specs.Says.{due_values, schedule_row, number_says, installment_says, offer_says, schedule_says, lender_says, totals_says, negotiation_says}

-- each answer's values read back
value : List ℕ → ℕ
value l = get_or l 0 0

due : List ℕ → Due
due l = record { number = get_or l 0 0; owed = get_or l 1 0 }

numbers : List ℕ → OfferNumbers
numbers l = record {
  id = get_or l 0 0;
  invoice = get_or l 1 0;
  lender = get_or l 2 0;
  amount = get_or l 3 0;
  rate = get_or l 4 0;
  duration = get_or l 5 0;
  expires = get_or l 6 0;
  status = get_or l 7 0;
  funded = get_or l 8 0;
  repaid = get_or l 9 0;
}

found : List ℕ → Option ScheduleNumbers
found [] = None
found (n ∷ l) = Some (record { count = n; code = get_or l 0 0; installment = get_or l 1 0; first = get_or l 2 0; kind = get_or l 3 0 })

lender : List ℕ → LenderNumbers
lender l = record { offered = get_or l 0 0; accepted = get_or l 1 0; pending = get_or l 2 0; repaid = get_or l 3 0 }

totals : List ℕ → TotalsNumbers
totals l = record { offers = get_or l 0 0; financed = get_or l 1 0; repaid = get_or l 2 0; fees = get_or l 3 0 }

back_schedule : (s : Option ScheduleNumbers) → found (schedule_row s) ≡ s
unfolding found
back_schedule None = refl
back_schedule (Some n) = refl

pub one_number : (a b : Result ℕ Refusal) → number_says a ≡ number_says b → a ≡ b
unfolding value
one_number = one_reply one_value value (λ n. refl)

pub one_installment : (a b : Result Due Refusal) → installment_says a ≡ installment_says b → a ≡ b
unfolding due
one_installment = one_reply due_values due (λ d. refl)

pub one_offer : (a b : Result OfferNumbers Refusal) → offer_says a ≡ offer_says b → a ≡ b
unfolding numbers
one_offer = one_reply in_order numbers (λ n. refl)

pub one_schedule : (a b : Result (Option ScheduleNumbers) Refusal) → schedule_says a ≡ schedule_says b → a ≡ b
one_schedule = one_reply schedule_row found back_schedule

pub one_lender : (a b : Result LenderNumbers Refusal) → lender_says a ≡ lender_says b → a ≡ b
unfolding lender
one_lender = one_reply lender_order lender (λ n. refl)

pub one_totals : (a b : Result TotalsNumbers Refusal) → totals_says a ≡ totals_says b → a ≡ b
unfolding totals
one_totals = one_reply totals_order totals (λ n. refl)

-- many lookups in one call
pub one_answered : (a b : Result ℕ Refusal) → answered_says a ≡ answered_says b → a ≡ b
one_answered = one_number

-- a refusal is no negotiation
not_0 : (r : Refusal) → 0 ≡ number r → ⊥
not_0 r e = let z : false ≡ true = sym (refusal_not-0 r) ∙ eq-eqb (number r) 0 (sym e) in let y : ◌≡◌ {A = ℕ} 0 1 = cc in omega arith

pub one_negotiation : (a b : Result Negotiation Refusal) → ◌≡◌ {A = ℕ × Negotiation} (negotiation_says a) (negotiation_says b) → a ≡ b
one_negotiation (Ok x) (Ok y) e = ap (λ z. Ok z) (ap (λ (p : ℕ × Negotiation). p.1) e)
one_negotiation (Ok x) (Err s) e = absurd (not_0 s (ap (λ (p : ℕ × Negotiation). p.0) e))
one_negotiation (Err r) (Ok y) e = absurd (not_0 r (sym (ap (λ (p : ℕ × Negotiation). p.0) e)))
one_negotiation (Err r) (Err s) e = ap (λ z. Err z) (one_refusal r s (ap (λ (p : ℕ × Negotiation). p.0) e))
