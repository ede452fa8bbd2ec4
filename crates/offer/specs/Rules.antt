-- Document 01, module 5: the checks of each command on an offer, in order, and the row after it.
use Rattle.std.specs.Prelude.{ℕ, Bool, true, not, ◌&&◌, ◌||◌, List, [], ◌∷◌, ◌++◌, leb, eqb, ℤ}
use Rattle.money.specs.Range.{in_total}
use Rattle.refusal.specs.Choice.{pick}
use Rattle.refusal.specs.Refusal.{Check, ◌gives◌, blacklisted, invalid_input, not_found, already_exists, unauthorized, invalid_transition, offer_expired, out_of_range, no_room}
use Rattle.refusal.specs.Rule.{Rule}
use Rattle.edition.specs.Edition.{holds_amount, round_limit, keeps_terms}
use Rattle.terms.specs.Status.{status_rejected, status_repaid, status_defaulted, status_listed}
use Rattle.terms.specs.Terms.{terms_ok, count_ok}
use Rattle.terms.specs.Schedule.{period_listed, made_of}
use Rattle.terms.specs.Kind.{kind_listed}
use Rattle.terms.specs.Installment.{installment_of, none_to_pay}
use Rattle.terms.specs.declared.Terms.{Terms}
use Rattle.negotiation.specs.Rounds.{status_of, negotiable, closed_as}
use Rattle.account.specs.declared.Account.{Account}
use Rattle.account.specs.Seen.{SeenAccount}
use Rattle.invoice.specs.Invoice.{invoice_pending, covers}
use Rattle.invoice.specs.Seen.{SeenInvoice}
use Rattle.offer.specs.declared.Deal.{Deal}
use Rattle.offer.specs.Seen.{SeenDeal}
use Rattle.offer.specs.Offer.{pending, expired, with_offer, with_status, with_repaid, with_negotiation, with_schedule}

-- The terms check has two parts: the ranges, and the amount against the invoice's, where it is held to it
abbrev pub in_ranges : Terms → Check
in_ranges t = not (terms_ok t) gives invalid_input

abbrev pub within : Bool → SeenInvoice → Terms → Check
within held paper t = held && not (covers paper.row t) gives invalid_input

-- Create: lender blacklisted 2; terms 3; invoice 4; invoice not Pending 7; lender is originator 3; amount above invoice 3; offer id 5; 12
abbrev pub create_checks : ℕ → Account → Terms → SeenInvoice → Bool → Bool → List Check
create_checks caller lender t paper exists full =
    (lender.blacklisted gives blacklisted)
    ∷ in_ranges t
    ∷ (not paper.here gives not_found)
    ∷ (not (eqb paper.row.status invoice_pending) gives invalid_transition)
    ∷ (eqb paper.row.originator caller gives invalid_input)
    ∷ within true paper t
    ∷ (exists gives already_exists)
    ∷ (full gives no_room)
    ∷ []

-- Withdraw: 4; not lender 6; not Pending 7
abbrev pub withdraw_of : SeenDeal → ℕ → Rule Deal
withdraw_of s caller = record {
  checks =
      (not s.here gives not_found)
      ∷ (not (eqb s.row.offer.lender caller) gives unauthorized)
      ∷ (not (pending s.row) gives invalid_transition)
      ∷ [];
  done = with_offer (with_status status_rejected s.row.offer) s.row;
}

-- Reject: 4; 7; invoice 4; not originator 6
abbrev pub reject_of : SeenDeal → ℕ → SeenInvoice → Rule Deal
reject_of s caller paper = record {
  checks =
      (not s.here gives not_found)
      ∷ (not (pending s.row) gives invalid_transition)
      ∷ (not paper.here gives not_found)
      ∷ (not (eqb paper.row.originator caller) gives unauthorized)
      ∷ [];
  done = with_offer (with_status status_rejected s.row.offer) s.row;
}

-- Accept: 4; not Pending 7; expiry 8; invoice 4; 6; invoice not Pending 7; then settle
abbrev pub accept_checks : SeenDeal → ℕ → ℕ → SeenInvoice → List Check
accept_checks s now caller paper =
    (not s.here gives not_found)
    ∷ (not (pending s.row) gives invalid_transition)
    ∷ (expired s.row.offer now gives offer_expired)
    ∷ (not paper.here gives not_found)
    ∷ (not (eqb paper.row.originator caller) gives unauthorized)
    ∷ (not (eqb paper.row.status invoice_pending) gives invalid_transition)
    ∷ []

-- A round: the amount against the invoice's where the edition holds it (02 b), right after the ownership check; then negotiable
abbrev pub round_checks : ℕ → SeenDeal → ℕ → Terms → ℕ → SeenInvoice → List Check
round_checks e s now t round paper = within (holds_amount e) paper t ∷ negotiable (round_limit e) s.row.negotiation (pending s.row) now round

-- Amend: caller blacklisted 2; terms 3; 4; not lender 6; invoice 4, where the edition holds the amount (02 b); a round's
abbrev pub amend_checks : ℕ → SeenDeal → ℕ → ℕ → Account → Terms → ℕ → SeenInvoice → List Check
amend_checks e s now caller lender t round paper =
    (lender.blacklisted gives blacklisted)
    ∷ in_ranges t
    ∷ (not s.here gives not_found)
    ∷ (not (eqb s.row.offer.lender caller) gives unauthorized)
    ∷ (holds_amount e && not paper.here gives not_found)
    ∷ round_checks e s now t round paper

-- Counter: 2; 3; 4; invoice 4; not originator 6; a round's
abbrev pub counter_checks : ℕ → SeenDeal → ℕ → ℕ → Account → Terms → ℕ → SeenInvoice → List Check
counter_checks e s now caller originator t round paper =
    (originator.blacklisted gives blacklisted)
    ∷ in_ranges t
    ∷ (not s.here gives not_found)
    ∷ (not paper.here gives not_found)
    ∷ (not (eqb paper.row.originator caller) gives unauthorized)
    ∷ round_checks e s now t round paper

-- Agreement: invoice 4, not Pending 7; expiry 8; lender blacklisted 2; originator blacklisted 2 (each after its row 4); then settle
abbrev pub agreement_checks : Deal → ℕ → SeenInvoice → SeenAccount → SeenAccount → List Check
agreement_checks d now paper lender originator =
    (not paper.here gives not_found)
    ∷ (not (eqb paper.row.status invoice_pending) gives invalid_transition)
    ∷ (expired d.offer now gives offer_expired)
    ∷ (not lender.here gives not_found)
    ∷ (lender.row.blacklisted gives blacklisted)
    ∷ (not originator.here gives not_found)
    ∷ (originator.row.blacklisted gives blacklisted)
    ∷ []

-- Close: outcome stored 7; None 4; Closed 7; Expired: anyone, as Expired; Open: lender or originator, else 6, as Closed
abbrev pub standing : SeenDeal → ℕ → ℕ
standing s now = status_of s.row.negotiation (pending s.row) now

abbrev pub outsider : SeenDeal → ℕ → ℕ → Bool
outsider s now caller = eqb (standing s now) 1 && not (eqb s.row.offer.lender caller)

unfoldable pub outcome_at : ℕ → ℕ
outcome_at status = pick (eqb status 4) 4 2

abbrev pub close_of : SeenDeal → ℕ → ℕ → SeenInvoice → Rule Deal
close_of s now caller paper = record {
  checks =
      (not (eqb s.row.negotiation.outcome 0) gives invalid_transition)
      ∷ (eqb (standing s now) 0 gives not_found)
      ∷ (eqb (standing s now) 2 gives invalid_transition)
      ∷ (outsider s now caller && not paper.here gives not_found)
      ∷ (outsider s now caller && not (eqb paper.row.originator caller) gives unauthorized)
      ∷ [];
  done = with_negotiation (closed_as (outcome_at (standing s now)) s.row.negotiation) s.row;
}

-- Schedule: count 3; kind 3 (02 j); first_due ≤ now 3; code 3; 4; Rejected, Repaid or Defaulted 7; invoice 4; not lender or originator 6
abbrev pub schedule_checks : ℕ → SeenDeal → ℕ → ℕ → ℕ → ℕ → ℕ → ℕ → SeenInvoice → List Check
schedule_checks e s now caller count code first kind paper =
    (not (count_ok count) gives invalid_input)
    ∷ (not (kind_listed (keeps_terms e) kind) gives invalid_input)
    ∷ (leb first now gives invalid_input)
    ∷ (not (period_listed code) gives invalid_input)
    ∷ (not s.here gives not_found)
    ∷ ((eqb s.row.offer.status status_rejected || eqb s.row.offer.status status_repaid) || eqb s.row.offer.status status_defaulted gives invalid_transition)
    ∷ (not paper.here gives not_found)
    ∷ (not (eqb s.row.offer.lender caller || eqb paper.row.originator caller) gives unauthorized)
    ∷ []

-- then installment 0, or falling with floor(amount/count) = 0, gives 3. The schedule keeps the offer's terms where the edition does (02 i)
abbrev pub schedule_of : ℕ → SeenDeal → ℕ → ℕ → ℕ → ℕ → ℕ → ℕ → SeenInvoice → Rule Deal
schedule_of e s now caller count code first kind paper = record {
  checks = schedule_checks e s now caller count code first kind paper ++ ((none_to_pay s.row.offer.terms kind count gives invalid_input) ∷ []);
  done = with_schedule (made_of (keeps_terms e) s.row.offer.terms kind count code first (installment_of s.row.offer.terms kind count).1) s.row;
}

-- Repayment's first update: caller 6; unlisted code 3; row 4. It sets the status
abbrev pub status_update_of : SeenDeal → Bool → ℕ → Rule Deal
status_update_of s allowed code = record {
  checks = (not allowed gives unauthorized) ∷ (not (status_listed code) gives invalid_input) ∷ (not s.here gives not_found) ∷ [];
  done = with_offer (with_status code s.row.offer) s.row;
}

-- Repayment's second update: caller 6; row 4; out of range 11. It sets the amount repaid
abbrev pub repaid_update_of : SeenDeal → Bool → ℤ → Rule Deal
repaid_update_of s allowed x = record {
  checks = (not allowed gives unauthorized) ∷ (not s.here gives not_found) ∷ (not (in_total x) gives out_of_range) ∷ [];
  done = with_offer (with_repaid x s.row.offer) s.row;
}
