-- What the crates above need of offers' rows: which row is zero, what a sound row holds, and that a new one, and one with a part put anew, is sound. Assumes nothing.
use Rattle.std.specs.Prelude.{ℕ, ◌≡◌, refl, Bool, true, false, ◌||◌, leb, ℤ, pos}
use Rattle.std.proofs.Common.{ap, subst, eqb-true}
use Rattle.money.specs.Range.{in_total}
use Rattle.edition.specs.Edition.{round_limit, keeps_terms}
use Rattle.money.specs.Facts.{both, zero_is}
use Rattle.terms.specs.Terms.{terms_ok}
use Rattle.terms.specs.Schedule.{keeps_none, schedule_ok, schedule_none, schedule_zero}
use Rattle.terms.specs.Laws.{none_kept}
use Rattle.terms.specs.declared.Terms.{Terms}
use Rattle.terms.specs.declared.Schedule.{Schedule}
use Rattle.negotiation.specs.Rounds.{round_slots, no_negotiation, negotiation_sound}
use Rattle.negotiation.specs.Whole.{Whole}
use Rattle.negotiation.specs.Laws.{negotiation_zero_lem, none_zero, none_sound, none_whole}
use Rattle.negotiation.specs.declared.Negotiation.{Negotiation}
use Rattle.offer.specs.declared.Offer.{Offer}
use Rattle.offer.specs.declared.Deal.{Deal}
use Rattle.offer.specs.Offer.{no_offer, no_schedule, no_deal, new_deal, with_offer, with_negotiation, with_schedule, deal_sound, offer_zero, deal_zero}

-- ── Zero rows ─────────────────────────────────────────────────────
no_schedule_lem : (s : Schedule) → s.count ≡ 0 → s.code ≡ 0 → s.installment ≡ pos 0 → s.first ≡ 0 → s.amount ≡ pos 0 → s.rate ≡ 0 → s.kind ≡ 0 → s ≡ no_schedule
no_schedule_lem s n k x f a r q i = record { count = n i; code = k i; installment = x i; first = f i; amount = a i; rate = r i; kind = q i }

pub schedule_zero_lem : (s : Schedule) → schedule_zero s ≡ true → s ≡ no_schedule
unfolding schedule_zero schedule_none keeps_none
schedule_zero_lem s e =
    let f = both _ _ e in
    let g = both _ _ f.1 in
    let d = both _ _ g.0 in
    let c = both _ _ f.0 in
    let b = both _ _ c.0 in
    let a = both _ _ b.0 in
    no_schedule_lem s (eqb-true _ _ a.0) (eqb-true _ _ a.1) (zero_is _ b.1) (eqb-true _ _ c.1) (zero_is _ d.0) (eqb-true _ _ d.1) (eqb-true _ _ g.1)

no_offer_lem : (o : Offer) → o.terms.amount ≡ pos 0 → o.terms.rate ≡ 0 → o.terms.duration ≡ 0 → o.invoice ≡ 0 → o.lender ≡ 0 → o.expires ≡ 0
    → o.funded ≡ 0 → o.repaid ≡ pos 0 → o.status ≡ 0 → o ≡ no_offer
no_offer_lem o a p q n l e f b s i = record {
  terms = record { amount = a i; rate = p i; duration = q i };
  invoice = n i;
  lender = l i;
  expires = e i;
  funded = f i;
  repaid = b i;
  status = s i;
}

pub offer_zero_lem : (o : Offer) → offer_zero o ≡ true → o ≡ no_offer
unfolding offer_zero
offer_zero_lem o z =
    let s = both _ _ z in
    let b = both _ _ s.0 in
    let f = both _ _ b.0 in
    let e = both _ _ f.0 in
    let l = both _ _ e.0 in
    let n = both _ _ l.0 in
    let q = both _ _ n.0 in
    let a = both _ _ q.0 in
    no_offer_lem o (zero_is _ a.0) (eqb-true _ _ a.1) (eqb-true _ _ q.1) (eqb-true _ _ n.1) (eqb-true _ _ l.1) (eqb-true _ _ e.1)
    (eqb-true _ _ f.1) (zero_is _ b.1) (eqb-true _ _ s.1)

parts : (d : Deal) → d.offer ≡ no_offer → d.negotiation ≡ no_negotiation → d.schedule ≡ no_schedule → d ≡ no_deal
parts d o n s i = record { offer = o i; negotiation = n i; schedule = s i }

-- a zero row is the row of no offer, and that one is zero
pub deal_zero_lem : (d : Deal) → Whole round_slots d.negotiation → deal_zero d ≡ true → d ≡ no_deal
unfolding deal_zero
deal_zero_lem d w e =
    let b = both _ _ e in
    let a = both _ _ b.0 in
    parts d (offer_zero_lem d.offer a.0) (negotiation_zero_lem d.negotiation w a.1) (schedule_zero_lem d.schedule b.1)

pub no_deal_zero : deal_zero no_deal ≡ true
unfolding deal_zero offer_zero schedule_zero schedule_none keeps_none
no_deal_zero = rw none_zero

-- a schedule of an edition that keeps no terms has none, and is flat
module _ (kept : Bool) (s : Schedule) (h : schedule_zero s || schedule_ok kept s ≡ true) where
  by_case : {P : Type 0} → (s ≡ no_schedule → P) → (schedule_ok kept s ≡ true → P) → P
  by_case {P} f g = go (schedule_zero s) refl h
    where
      go : (b : Bool) → schedule_zero s ≡ b → b || schedule_ok kept s ≡ true → P
      go true e k = f (schedule_zero_lem s e)
      go false e k = g k

  pub unkept : kept ≡ false → ◌≡◌ {A = ℤ × (ℕ × ℕ)} (s.amount, (s.rate, s.kind)) (pos 0, (0, 0))
  unkept e = by_case (λ z. ap (λ (x : Schedule). (x.amount, (x.rate, x.kind))) z) (λ k. none_kept s (subst (λ (b : Bool). schedule_ok b s ≡ true) e k))

-- ── Sound rows ────────────────────────────────────────────────────
-- a row passes the test, and its negotiation has room for all its rounds
pub record DealKept (e : ℕ) (d : Deal) : Type 0 where
  pub test : deal_sound e d ≡ true
  pub whole : Whole round_slots d.negotiation

-- what that says of each part
pub record Ranges (e : ℕ) (d : Deal) : Type 0 where
  pub terms_in_lem : terms_ok d.offer.terms ≡ true
  pub repaid_in : in_total d.offer.repaid ≡ true
  pub status_in : leb d.offer.status 5 ≡ true
  pub rounds_in : negotiation_sound round_slots (round_limit e) d.negotiation ≡ true
  pub schedule_in_lem : schedule_zero d.schedule || schedule_ok (keeps_terms e) d.schedule ≡ true

pub kept_ranges : {e : ℕ} {d : Deal} → DealKept e d → Ranges e d
unfolding deal_sound
kept_ranges {e} {d} h =
    let f = both _ _ h.test in
    let c = both _ _ f.0 in
    let b = both _ _ c.0 in
    let a = both _ _ b.0 in
    record { terms_in_lem = a.0; repaid_in = a.1; status_in = b.1; rounds_in = c.1; schedule_in_lem = f.1 }

pub ranges_kept : {e : ℕ} {d : Deal} → Ranges e d → Whole round_slots d.negotiation → DealKept e d
unfolding deal_sound
ranges_kept {e} {d} r w = record { test = rw (r.terms_in_lem, r.repaid_in, r.status_in, r.rounds_in, r.schedule_in_lem); whole = w }

-- a new offer of valid terms
pub new-kept : {e : ℕ} (lender invoice : ℕ) (t : Terms) (expires : ℕ) → terms_ok t ≡ true → DealKept e (new_deal lender invoice t expires)
unfolding schedule_zero schedule_none keeps_none
new-kept lender invoice t expires h = ranges_kept (record { terms_in_lem = h; repaid_in = refl; status_in = refl; rounds_in = none_sound _; schedule_in_lem = refl }) none_whole

module _ {e : ℕ} {d : Deal} (h : DealKept e d) where
  pub offer_kept : (o : Offer) → terms_ok o.terms ≡ true → in_total o.repaid ≡ true → leb o.status 5 ≡ true → DealKept e (with_offer o d)
  offer_kept o a b s =
      let r = kept_ranges h in
      ranges_kept (record { terms_in_lem = a; repaid_in = b; status_in = s; rounds_in = r.rounds_in; schedule_in_lem = r.schedule_in_lem }) h.whole

  pub negotiation_kept : (n : Negotiation) → negotiation_sound round_slots (round_limit e) n ≡ true → Whole round_slots n → DealKept e (with_negotiation n d)
  negotiation_kept n s w =
      let r = kept_ranges h in
      ranges_kept (record { terms_in_lem = r.terms_in_lem; repaid_in = r.repaid_in; status_in = r.status_in; rounds_in = s; schedule_in_lem = r.schedule_in_lem }) w

  pub schedule_kept : (s : Schedule) → schedule_ok (keeps_terms e) s ≡ true → DealKept e (with_schedule s d)
  schedule_kept s k =
      let r = kept_ranges h in
      ranges_kept (record { terms_in_lem = r.terms_in_lem; repaid_in = r.repaid_in; status_in = r.status_in; rounds_in = r.rounds_in; schedule_in_lem = either (schedule_zero s) }) h.whole
    where
      either : (b : Bool) → b || schedule_ok (keeps_terms e) s ≡ true
      either true = refl
      either false = k
