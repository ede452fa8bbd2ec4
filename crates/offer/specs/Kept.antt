-- That every rule on an offer's row, and every part of a command put on it, leaves a sound row sound where the checks pass. Assumes nothing.
use Rattle.std.specs.Prelude.{ℕ, ◌≤◌, ◌≡◌, refl, Bool, true, false, cond, leb, eqb, ℤ}
use Rattle.std.proofs.Common.{sym, ap, ◌∙◌, arith, eqb-true, leb-false}
use Rattle.std.proofs.lemmas.Bool.{not-false, lt-leb}
use Rattle.money.specs.Range.{in_total, is_zero}
use Rattle.refusal.specs.Choice.{pick}
use Rattle.refusal.specs.ChoiceLaws.{pick_on, pick_off}
use Rattle.refusal.specs.Refusal.{first}
use Rattle.refusal.specs.Rule.{Rule, after}
use Rattle.refusal.specs.RuleLaws.{Keeps, passed}
use Rattle.edition.specs.Edition.{round_limit, keeps_terms}
use Rattle.terms.specs.Status.{status_listed}
use Rattle.terms.specs.Terms.{terms_ok, count_ok}
use Rattle.terms.specs.Schedule.{period_listed, made_of, schedule_ok}
use Rattle.terms.specs.Kind.{kind_listed}
use Rattle.terms.specs.Installment.{installment_of, none_to_pay}
use Rattle.terms.specs.Laws.{terms_in_lem, installment_valid, installment_in, listed_both, none_is, made_ok}
use Rattle.terms.specs.declared.Terms.{Terms}
use Rattle.negotiation.specs.Rounds.{round_slots, negotiable, round_of, added_of, accepted_of, closed_as}
use Rattle.negotiation.specs.Laws.{stored, round_sound_lem, added_sound, added_whole, closed_sound, closed_whole, accepted_sound, accepted_whole}
use Rattle.negotiation.specs.declared.Negotiation.{Negotiation}
use Rattle.account.specs.declared.Account.{Account}
use Rattle.invoice.specs.Seen.{SeenInvoice}
use Rattle.offer.specs.declared.Deal.{Deal}
use Rattle.offer.specs.Seen.{SeenDeal}
use Rattle.offer.specs.Offer.{pending, with_funded, with_status, with_repaid, with_terms, settled_deal, amended_deal, countered_deal}
use Rattle.offer.specs.Rules.{withdraw_of, reject_of, amend_checks, counter_checks, standing, outcome_at, close_of, schedule_of, status_update_of, repaid_update_of}
use Rattle.offer.specs.Laws.{DealKept, kept_ranges, offer_kept, negotiation_kept, schedule_kept}

-- ── Settlement ────────────────────────────────────────────────────
pub settled_kept : {e : ℕ} (now : ℕ) (d : Deal) → DealKept e d → DealKept e (settled_deal now d)
unfolding settled_deal
settled_kept {e} now d h =
    let r = kept_ranges h in
    negotiation_kept (offer_kept h (with_funded now (with_status 1 d.offer)) r.terms_in_lem r.repaid_in refl)
    (accepted_of d.negotiation) (accepted_sound round_slots (round_limit e) d.negotiation r.rounds_in) (accepted_whole round_slots d.negotiation h.whole)

-- ── A round more ──────────────────────────────────────────────────
-- where one may be added there is room for it
pub room_left : (limit : ℕ) (n : Negotiation) (pending : Bool) (now round : ℕ) → first (negotiable limit n pending now round) ≡ 0 → leb limit n.len ≡ false
room_left limit n pending now round e = (passed _ _ _ (passed _ _ _ (passed _ _ _ (passed _ _ _ e).1).1).1).0

-- no edition has more rounds than an offer has places for
pub limit_in_slots : (e : ℕ) → round_limit e ≤ round_slots
unfolding round_limit
limit_in_slots e = go (leb 4 e)
  where
    go : (b : Bool) → cond b 16 12 ≤ round_slots
    go true = omega arith
    go false = omega arith

-- so that where its limit leaves a round there is a place for it
pub in_place : (e : ℕ) (n : Negotiation) → leb (round_limit e) n.len ≡ false → leb round_slots n.len ≡ false
in_place e n few = lt-leb round_slots n.len (omega (arith, leb-false (round_limit e) n.len few, limit_in_slots e))

round_kept : {e : ℕ} (now window : ℕ) (t : Terms) (party : ℕ) {d : Deal} → leb party 1 ≡ true → terms_ok t ≡ true → leb (round_limit e) d.negotiation.len ≡ false → DealKept e d
    → DealKept e (record { offer = d.offer; negotiation = added_of round_slots d.negotiation (round_of now t party) window; schedule = d.schedule })
round_kept {e} now window t party {d} l k few h =
    let n = d.negotiation in
    let room = in_place e n few in
    negotiation_kept h (added_of round_slots n (round_of now t party) window)
    (added_sound round_slots n h.whole room (round_of now t party) window (round_limit e) few (round_sound_lem now t party l k) (kept_ranges h).rounds_in)
    (added_whole round_slots n h.whole room (round_of now t party) window)

pub amended_kept : (e : ℕ) (s : SeenDeal) (now caller : ℕ) (lender : Account) (t : Terms) (round : ℕ) (paper : SeenInvoice) (window : ℕ)
    → DealKept e s.row → first (amend_checks e s now caller lender t round paper) ≡ 0 → DealKept e (amended_deal now window t s.row)
unfolding amended_deal
amended_kept e s now caller lender t round paper window h z =
    let a = passed _ _ _ (passed _ _ _ z).1 in
    let k = not-false (terms_ok t) a.0 in
    let room = room_left (round_limit e) s.row.negotiation (pending s.row) now round (passed _ _ _ (passed _ _ _ (passed _ _ _ (passed _ _ _ a.1).1).1).1).1 in
    let r = kept_ranges h in
    round_kept now window t 0 refl k room (offer_kept h (with_terms t s.row.offer) k r.repaid_in r.status_in)

pub countered_kept : (e : ℕ) (s : SeenDeal) (now caller : ℕ) (originator : Account) (t : Terms) (round : ℕ) (paper : SeenInvoice) (window : ℕ)
    → DealKept e s.row → first (counter_checks e s now caller originator t round paper) ≡ 0 → DealKept e (countered_deal now window t s.row)
unfolding countered_deal
countered_kept e s now caller originator t round paper window h z =
    let a = passed _ _ _ (passed _ _ _ z).1 in
    let k = not-false (terms_ok t) a.0 in
    let room = room_left (round_limit e) s.row.negotiation (pending s.row) now round (passed _ _ _ (passed _ _ _ (passed _ _ _ (passed _ _ _ a.1).1).1).1).1 in
    round_kept now window t 1 refl k room h

-- so the row is sound after it
pub after_kept : {n : ℕ} (d : Deal) (u : Rule Deal) → Keeps (DealKept n) d u → DealKept n d → DealKept n (after d u)
unfolding after
after_kept {n} d u k h = go (eqb (first u.checks) 0) refl
  where
    go : (t : Bool) → eqb (first u.checks) 0 ≡ t → DealKept n (pick (eqb (first u.checks) 0) u.done d)
    go true e = rw (pick_on u.done d e) (k h (eqb-true _ _ e))
    go false e = rw (pick_off u.done d e) h

rejected_kept : {e : ℕ} (d : Deal) → DealKept e d → DealKept e (record { offer = with_status 2 d.offer; negotiation = d.negotiation; schedule = d.schedule })
rejected_kept d h = let r = kept_ranges h in offer_kept h (with_status 2 d.offer) r.terms_in_lem r.repaid_in refl

pub withdraw_keeps : {e : ℕ} (s : SeenDeal) (caller : ℕ) → Keeps (DealKept e) s.row (withdraw_of s caller)
withdraw_keeps s caller h e = rejected_kept s.row h

pub reject_keeps : {e : ℕ} (s : SeenDeal) (caller : ℕ) (paper : SeenInvoice) → Keeps (DealKept e) s.row (reject_of s caller paper)
reject_keeps s caller paper h e = rejected_kept s.row h

-- what a close stores can be stored
outcome_stored : (status : ℕ) → stored (outcome_at status) ≡ true
unfolding outcome_at pick
outcome_stored status = go (eqb status 4)
  where
    go : (b : Bool) → stored (pick b 4 2) ≡ true
    go true = refl
    go false = refl

pub close_keeps : {e : ℕ} (s : SeenDeal) (now caller : ℕ) (paper : SeenInvoice) → Keeps (DealKept e) s.row (close_of s now caller paper)
close_keeps {e} s now caller paper h z =
    let n = s.row.negotiation in
    let o = outcome_at (standing s now) in
    negotiation_kept h (closed_as o n) (closed_sound round_slots (round_limit e) o n (outcome_stored (standing s now)) (kept_ranges h).rounds_in) (closed_whole round_slots o n h.whole)

-- the schedule of valid terms whose installment is not 0 can be stored, with its terms or without
made_kept : (kept : Bool) (t : Terms) (kind count code first : ℕ) → terms_ok t ≡ true → kind_listed kept kind ≡ true → count_ok count ≡ true → period_listed code ≡ true → none_to_pay t kind count ≡ false
    → schedule_ok kept (made_of kept t kind count code first (installment_of t kind count).1) ≡ true
made_kept kept t kind count code first h q k l z =
    let v = ap (λ (q : ℕ × ℤ). q.1) (installment_valid t kind count h k (listed_both kept kind q)) in
    rw v (made_ok kept t kind count code first (terms_in_lem t h) q k l (installment_in t kind count (terms_in_lem t h) k (ap is_zero (sym v) ∙ (sym (none_is t kind count) ∙ z))))

pub schedule_keeps : (e : ℕ) (s : SeenDeal) (now caller count code first kind : ℕ) (paper : SeenInvoice) → Keeps (DealKept e) s.row (schedule_of e s now caller count code first kind paper)
schedule_keeps e s now caller count code first kind paper h c =
    let t = s.row.offer.terms in
    let a = passed _ _ _ c in
    let q = passed _ _ _ a.1 in
    let b = passed _ _ _ (passed _ _ _ q.1).1 in
    let z = passed _ _ _ (passed _ _ _ (passed _ _ _ (passed _ _ _ (passed _ _ _ b.1).1).1).1).1 in
    schedule_kept h (made_of (keeps_terms e) t kind count code first (installment_of t kind count).1)
    (made_kept (keeps_terms e) t kind count code first (kept_ranges h).terms_in_lem (not-false (kind_listed (keeps_terms e) kind) q.0) (not-false (count_ok count) a.0) (not-false (period_listed code) b.0) z.0)

pub status_update_keeps : {e : ℕ} (s : SeenDeal) (allowed : Bool) (code : ℕ) → Keeps (DealKept e) s.row (status_update_of s allowed code)
status_update_keeps s allowed code h e =
    let r = kept_ranges h in
    offer_kept h (with_status code s.row.offer) r.terms_in_lem r.repaid_in (not-false (status_listed code) (passed _ _ _ (passed _ _ _ e).1).0)

pub repaid_update_keeps : {e : ℕ} (s : SeenDeal) (allowed : Bool) (x : ℤ) → Keeps (DealKept e) s.row (repaid_update_of s allowed x)
repaid_update_keeps s allowed x h e =
    let r = kept_ranges h in
    let l = not-false (in_total x) (passed _ _ _ (passed _ _ _ (passed _ _ _ e).1).1).0 in
    offer_kept h (with_repaid x s.row.offer) r.terms_in_lem l r.status_in
