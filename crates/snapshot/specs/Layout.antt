-- THE TABLE: the fields of a snapshot in their order, by the edition (docs/SNAPSHOT.md). A field more is a line more; its laws come with it.
use Rattle.std.specs.Prelude.{◌≡◌, refl, Bool, List, ℕ, ℤ, pos, length, take}
use Rattle.std.proofs.Common.{sym, ap, arith}
use Rattle.edition.specs.Edition.{listed, round_limit, keeps_terms}
use Rattle.table.specs.Tables.{Table}
use Rattle.table.specs.Padded.{padded}
use Rattle.terms.specs.Kind.{flat_kind}
use Rattle.terms.specs.declared.Terms.{Terms}
use Rattle.terms.specs.declared.Schedule.{Schedule}
use Rattle.negotiation.specs.declared.Round.{Round}
use Rattle.negotiation.specs.declared.Negotiation.{Negotiation}
use Rattle.negotiation.specs.Rounds.{round_slots, no_round, terms_of, round_of}
use Rattle.account.specs.declared.Purse.{Purse}
use Rattle.account.specs.declared.Account.{Account}
use Rattle.invoice.specs.declared.Invoice.{Invoice}
use Rattle.settings.specs.declared.Settings.{Settings}
use Rattle.totals.specs.declared.Totals.{Totals}
use Rattle.offer.specs.declared.Offer.{Offer}
use Rattle.offer.specs.declared.Deal.{Deal}
use Rattle.offer.specs.Kept.{limit_in_slots}
use Rattle.rules.specs.Model.{Model}
use Rattle.codec.specs.Codec.{Codec, ◌then◌, via, given, rows, led}
use Rattle.codec.specs.Columns.{whole, half, signed, flag}
use Rattle.snapshot.specs.Rounds.{rounds_back}

-- ── What the admins set, and the book's totals ────────────────────
abbrev pub settings_from : ℕ → ℕ × (ℕ × (ℕ × (Bool × (Bool × ℕ)))) → Settings
settings_from e (window, (seats, (threshold, (paused, (appointed, repayer))))) =
    record { window = window; repayer = repayer; seats = seats; threshold = threshold; edition = e; appointed = appointed; paused = paused }

abbrev pub settings_parts : Settings → ℕ × (ℕ × (ℕ × (Bool × (Bool × ℕ))))
settings_parts s = (s.window, (s.seats, (s.threshold, (s.paused, (s.appointed, s.repayer)))))

unfoldable pub settings : ℕ → Codec Settings
settings e =
    via (settings_from e) settings_parts
    (whole 0x11
    then half 0x0d
    then half 0x0e
    then flag 0x60
    then flag 0x61
    then whole 0x62)
    (λ x _. refl)

abbrev pub totals_from : ℕ × (ℤ × (ℤ × ℤ)) → Totals
totals_from (offers, (financed, (repaid, fees))) = record { financed = financed; repaid = repaid; fees = fees; offers = offers }

abbrev pub totals_parts : Totals → ℕ × (ℤ × (ℤ × ℤ))
totals_parts t = (t.offers, (t.financed, (t.repaid, t.fees)))

unfoldable pub totals : Codec Totals
totals =
    via totals_from totals_parts
    (half 0x63
    then signed 0x64
    then signed 0x65
    then signed 0x66)
    (λ x _. refl)

-- ── Rows, each with its id ────────────────────────────────────────
abbrev pub purse_from : ℤ × (ℤ × (ℤ × ℤ)) → Purse
purse_from (balance, (allowance, (offered, accepted))) = record { balance = balance; allowance = allowance; offered = offered; accepted = accepted }

abbrev pub purse_parts : Purse → ℤ × (ℤ × (ℤ × ℤ))
purse_parts p = (p.balance, (p.allowance, (p.offered, p.accepted)))

unfoldable pub purse : Codec Purse
purse =
    via purse_from purse_parts
    (signed 0x71
    then signed 0x72
    then signed 0x73
    then signed 0x74)
    (λ x _. refl)

abbrev pub account_from : ℕ × (Purse × (ℕ × (ℕ × Bool))) → ℕ × Account
account_from (id, (p, (pending, (repaid, blacklisted)))) = (id, record { purse = p; pending = pending; repaid = repaid; blacklisted = blacklisted })

abbrev pub account_parts : ℕ × Account → ℕ × (Purse × (ℕ × (ℕ × Bool)))
account_parts (id, a) = (id, (a.purse, (a.pending, (a.repaid, a.blacklisted))))

unfoldable pub account : Codec (ℕ × Account)
account =
    via account_from account_parts
    (whole 0x03
    then purse
    then half 0x75
    then half 0x76
    then flag 0x77)
    (λ x _. refl)

abbrev pub invoice_from : ℕ × (ℕ × (ℤ × ℕ)) → ℕ × Invoice
invoice_from (id, (originator, (amount, status))) = (id, record { originator = originator; amount = amount; status = status })

abbrev pub invoice_parts : ℕ × Invoice → ℕ × (ℕ × (ℤ × ℕ))
invoice_parts (id, i) = (id, (i.originator, (i.amount, i.status)))

unfoldable pub invoice : Codec (ℕ × Invoice)
invoice =
    via invoice_from invoice_parts
    (whole 0x03
    then whole 0x81
    then signed 0x05
    then half 0x82)
    (λ x _. refl)

-- ── An offer's row: the offer, its negotiation, its schedule ──────
abbrev pub terms_from : ℤ × (ℕ × ℕ) → Terms
terms_from (amount, (rate, duration)) = record { amount = amount; rate = rate; duration = duration }

abbrev pub terms_parts : Terms → ℤ × (ℕ × ℕ)
terms_parts t = (t.amount, (t.rate, t.duration))

unfoldable pub terms : Codec Terms
terms =
    via terms_from terms_parts
    (signed 0x05
    then half 0x06
    then whole 0x07)
    (λ x _. refl)

abbrev pub offer_from : ℕ × (ℕ × (Terms × (ℕ × (ℕ × (ℕ × ℤ))))) → Offer
offer_from (invoice, (lender, (t, (expires, (status, (funded, repaid)))))) =
    record { terms = t; invoice = invoice; lender = lender; expires = expires; funded = funded; repaid = repaid; status = status }

abbrev pub offer_parts : Offer → ℕ × (ℕ × (Terms × (ℕ × (ℕ × (ℕ × ℤ)))))
offer_parts o = (o.invoice, (o.lender, (o.terms, (o.expires, (o.status, (o.funded, o.repaid))))))

unfoldable pub offer : Codec Offer
offer =
    via offer_from offer_parts
    (whole 0x04
    then whole 0x91
    then terms
    then whole 0x08
    then half 0x92
    then whole 0x93
    then signed 0x94)
    (λ x _. refl)

abbrev pub round_from : ℕ × (Terms × ℕ) → Round
round_from (party, (t, time)) = round_of time t party

abbrev pub round_parts : Round → ℕ × (Terms × ℕ)
round_parts r = (r.party, (terms_of r, r.time))

unfoldable pub round : Codec Round
round =
    via round_from round_parts
    (half 0x98
    then terms
    then whole 0x01)
    (λ x _. refl)

-- the rounds in use, at most as many as the edition has; the places after them are zero
abbrev pub negotiation_from : ℕ × (ℕ × List Round) → Negotiation
negotiation_from (deadline, (outcome, rs)) = record { rounds = padded no_round (λ r. r) round_slots rs; deadline = deadline; len = length rs; outcome = outcome }

abbrev pub negotiation_parts : Negotiation → ℕ × (ℕ × List Round)
negotiation_parts n = (n.deadline, (n.outcome, take n.len n.rounds))

unfoldable pub negotiation : ℕ → Codec Negotiation
unfolding ◌then◌ rows
negotiation e =
    via negotiation_from negotiation_parts
    (whole 0x95
    then half 0x96
    then rows 0x97 (round_limit e) round)
    (λ x f. rounds_back x.0 x.1.0 x.1.1 (omega (arith, f.1.1.0.0, limit_in_slots e)))

-- the terms that a schedule keeps and its kind, in the editions that have them (i, j)
unfoldable pub kept : ℕ → Codec (ℤ × (ℕ × ℕ))
kept e =
    given (keeps_terms e) (pos 0, (0, flat_kind))
    (signed 0x9a
    then half 0x9b
    then half 0x14)

abbrev pub schedule_from : ℕ × (ℕ × (ℤ × (ℕ × (ℤ × (ℕ × ℕ))))) → Schedule
schedule_from (count, (code, (installment, (first, (amount, (rate, kind)))))) =
    record { count = count; code = code; installment = installment; first = first; amount = amount; rate = rate; kind = kind }

abbrev pub schedule_parts : Schedule → ℕ × (ℕ × (ℤ × (ℕ × (ℤ × (ℕ × ℕ)))))
schedule_parts s = (s.count, (s.code, (s.installment, (s.first, (s.amount, (s.rate, s.kind))))))

unfoldable pub schedule : ℕ → Codec Schedule
schedule e =
    via schedule_from schedule_parts
    (half 0x0a
    then half 0x0b
    then signed 0x99
    then whole 0x0c
    then kept e)
    (λ x _. refl)

abbrev pub deal_from : ℕ × (Offer × (Negotiation × Schedule)) → ℕ × Deal
deal_from (id, (o, (n, s))) = (id, record { offer = o; negotiation = n; schedule = s })

abbrev pub deal_parts : ℕ × Deal → ℕ × (Offer × (Negotiation × Schedule))
deal_parts (id, d) = (id, (d.offer, (d.negotiation, d.schedule)))

unfoldable pub deal : ℕ → Codec (ℕ × Deal)
deal e =
    via deal_from deal_parts
    (whole 0x03
    then offer
    then negotiation e
    then schedule e)
    (λ x _. refl)

-- ── The book ──────────────────────────────────────────────────────
abbrev pub model_from : Settings × (Totals × (Table Account × (Table Invoice × Table Deal))) → Model
model_from (s, (t, (a, (i, o)))) = record { accounts = a; invoices = i; offers = o; totals = t; settings = s }

abbrev pub model_parts : Model → Settings × (Totals × (Table Account × (Table Invoice × Table Deal)))
model_parts m = (m.settings, (m.totals, (m.accounts, (m.invoices, m.offers))))

-- the fields of an edition
unfoldable pub fields : ℕ → Codec Model
fields e =
    via model_from model_parts
    (settings e
    then totals
    then rows 0x70 64 account
    then rows 0x80 64 invoice
    then rows 0x90 64 (deal e))
    (λ x _. refl)

abbrev pub edition_in : Model → ℕ
edition_in m = m.settings.edition

pub of_edition : (e : ℕ) (m : Model) → (fields e).Fits m → edition_in m ≡ e
unfolding fields settings ◌then◌ via
of_edition e m f = sym (ap (λ (s : Settings). s.edition) f.0.0.1)

-- the edition first, and its fields
unfoldable pub layout : Codec Model
layout = led 0x10 listed edition_in fields of_edition
