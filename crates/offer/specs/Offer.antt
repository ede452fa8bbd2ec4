-- An offer's row, with its negotiation and its schedule: the one of a new offer, its parts put anew, and what a sound book holds of it.
use Rattle.std.specs.Prelude.{ℕ, Bool, not, ◌&&◌, ◌||◌, leb, eqb, ℤ, pos}
use Rattle.money.specs.Range.{in_total, is_zero}
use Rattle.edition.specs.Edition.{round_limit, keeps_terms}
use Rattle.terms.specs.Status.{status_pending, status_accepted, status_listed}
use Rattle.terms.specs.Terms.{terms_ok}
use Rattle.terms.specs.Schedule.{schedule_ok, schedule_zero}
use Rattle.terms.specs.declared.Terms.{Terms}
use Rattle.terms.specs.declared.Schedule.{Schedule}
use Rattle.negotiation.specs.Rounds.{round_slots, no_negotiation, round_of, added_of, accepted_of, negotiation_sound, negotiation_zero}
use Rattle.negotiation.specs.declared.Negotiation.{Negotiation}
use Rattle.offer.specs.declared.Offer.{Offer}
use Rattle.offer.specs.declared.Deal.{Deal}

abbrev pub no_offer : Offer
no_offer = record { terms = record { amount = pos 0; rate = 0; duration = 0 }; invoice = 0; lender = 0; expires = 0; funded = 0; repaid = pos 0; status = 0 }

abbrev pub no_schedule : Schedule
no_schedule = record { count = 0; code = 0; installment = pos 0; first = 0; amount = pos 0; rate = 0; kind = 0 }

abbrev pub no_deal : Deal
no_deal = record { offer = no_offer; negotiation = no_negotiation; schedule = no_schedule }

abbrev pub new_deal : ℕ → ℕ → Terms → ℕ → Deal
new_deal lender invoice t expires = record {
  offer = record { terms = t; invoice = invoice; lender = lender; expires = expires; funded = 0; repaid = pos 0; status = status_pending };
  negotiation = no_negotiation;
  schedule = no_schedule;
}

-- ── Parts put anew ────────────────────────────────────────────────
abbrev pub with_terms : Terms → Offer → Offer
with_terms t o = record { terms = t; invoice = o.invoice; lender = o.lender; expires = o.expires; funded = o.funded; repaid = o.repaid; status = o.status }

abbrev pub with_status : ℕ → Offer → Offer
with_status s o = record { terms = o.terms; invoice = o.invoice; lender = o.lender; expires = o.expires; funded = o.funded; repaid = o.repaid; status = s }

abbrev pub with_funded : ℕ → Offer → Offer
with_funded now o = record { terms = o.terms; invoice = o.invoice; lender = o.lender; expires = o.expires; funded = now; repaid = o.repaid; status = o.status }

abbrev pub with_repaid : ℤ → Offer → Offer
with_repaid x o = record { terms = o.terms; invoice = o.invoice; lender = o.lender; expires = o.expires; funded = o.funded; repaid = x; status = o.status }

abbrev pub with_offer : Offer → Deal → Deal
with_offer o d = record { offer = o; negotiation = d.negotiation; schedule = d.schedule }

abbrev pub with_negotiation : Negotiation → Deal → Deal
with_negotiation n d = record { offer = d.offer; negotiation = n; schedule = d.schedule }

abbrev pub with_schedule : Schedule → Deal → Deal
with_schedule s d = record { offer = d.offer; negotiation = d.negotiation; schedule = s }

abbrev pub pending : Deal → Bool
pending d = eqb d.offer.status status_pending

-- expires_at ≠ 0 and now ≥ expires_at
unfoldable pub expired : Offer → ℕ → Bool
expired o now = not (eqb o.expires 0) && leb o.expires now

-- settlement: Accepted is stored if there are rounds and no outcome; status Accepted, funded_at = now
unfoldable pub settled_deal : ℕ → Deal → Deal
settled_deal now d = record { offer = with_funded now (with_status status_accepted d.offer); negotiation = accepted_of d.negotiation; schedule = d.schedule }

-- amend: the offer takes the terms; the round is added
unfoldable pub amended_deal : ℕ → ℕ → Terms → Deal → Deal
amended_deal now window t d = record { offer = with_terms t d.offer; negotiation = added_of round_slots d.negotiation (round_of now t 0) window; schedule = d.schedule }

-- counter: the round is added
unfoldable pub countered_deal : ℕ → ℕ → Terms → Deal → Deal
countered_deal now window t d = record { offer = d.offer; negotiation = added_of round_slots d.negotiation (round_of now t 1) window; schedule = d.schedule }

-- ── What a sound book holds of it ─────────────────────────────────
-- its rounds are at most as many as the book's edition has, and its schedule keeps its terms and has a kind where the edition has both
unfoldable pub deal_sound : ℕ → Deal → Bool
deal_sound e d =
    (((terms_ok d.offer.terms && in_total d.offer.repaid) && status_listed d.offer.status) && negotiation_sound round_slots (round_limit e) d.negotiation)
    && (schedule_zero d.schedule || schedule_ok (keeps_terms e) d.schedule)

unfoldable pub offer_zero : Offer → Bool
offer_zero o =
    (((((((is_zero o.terms.amount && eqb o.terms.rate 0) && eqb o.terms.duration 0) && eqb o.invoice 0) && eqb o.lender 0) && eqb o.expires 0)
    && eqb o.funded 0) && is_zero o.repaid) && eqb o.status 0

unfoldable pub deal_zero : Deal → Bool
deal_zero d = (offer_zero d.offer && negotiation_zero round_slots d.negotiation) && schedule_zero d.schedule
