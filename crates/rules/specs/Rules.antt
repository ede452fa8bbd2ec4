-- Document 01, modules 4 and 5: the rule of each command, its checks in order and the book after it.
use Rattle.std.specs.Prelude.{ℕ, Bool, not, ◌&&◌, List, [], ◌∷◌, ◌++◌, ℤ}
use Rattle.refusal.specs.Choice.{pick}
use Rattle.refusal.specs.Refusal.{Check, ◌gives◌, paused, not_found, already_exists, no_room}
use Rattle.refusal.specs.Rule.{Rule, next, sure}
use Rattle.table.specs.Tables.{adjust, insert, full}
use Rattle.terms.specs.Terms.{same_terms}
use Rattle.terms.specs.declared.Terms.{Terms}
use Rattle.negotiation.specs.Rounds.{round_slots, agrees_of}
use Rattle.account.specs.Account.{no_account}
use Rattle.account.specs.declared.Account as Account
use Rattle.account.specs.Rules.{deposit_of, payout_of, approve_of, offer_of, reoffer_of, lender_repaid_of, blacklist_of}
use Rattle.invoice.specs.Invoice.{invoice_of, financed, register_checks, cancel_of}
use Rattle.offer.specs.declared.Deal.{Deal}
use Rattle.offer.specs.Offer.{new_deal, settled_deal, amended_deal, countered_deal}
use Rattle.offer.specs.Rules.{create_checks, withdraw_of, reject_of, accept_checks, amend_checks, counter_checks, agreement_checks, close_of, schedule_of, status_update_of, repaid_update_of}
use Rattle.settings.specs.declared.Settings.{Settings}
use Rattle.settings.specs.Settings.{admin_passes, is_repayer, pause_of, window_of, repayer_of, seats_of}
use Rattle.totals.specs.Totals.{count_of, finance_of, repay_of}
use Rattle.parties.specs.Settlement.{settle_accounts}
use Rattle.command.specs.Names.{names_for}
use Rattle.command.specs.declared.Names.{Names}
use Rattle.command.specs.Shape.{OnAccount, deposits, pays, approves, lender_repaid, blacklists, OnOffer, withdraws, rejects, closes, schedules, marks, repaid, OnSettings, pauses, waits, appoints, seats, Shape, opens, account, registers, cancels, creates, offer, accepts, amends, counters, totals, settings, shape_of}
use Rattle.command.specs.declared.Command.{Command}
use Rattle.rules.specs.Model.{Model, account_in, account_by, invoice_in, offer_in, paper_of, with_accounts, with_invoices, with_offers, on_account, on_invoice, on_offer, on_totals, on_settings}

-- ── Test order: 1 (except pause and unpause), then 4 if the caller has no account (not for admin commands or opening) ──
abbrev pub gate_by : Bool → Bool → Names → List Check
gate_by stopped here n = (stopped && n.pausable gives paused) ∷ (n.called && not here gives not_found) ∷ []

abbrev pub gate_checks : Model → Shape → List Check
gate_checks m c = gate_by m.settings.paused (account_by m (names_for c).first).here (names_for c)

-- ── Port: open account 5, 12; register invoice amount 3, 5, 12 ────
abbrev pub opening : Model → ℕ → Rule Model
opening m a = record {
  checks = ((account_in m a).here gives already_exists) ∷ (full 64 m.accounts gives no_room) ∷ [];
  done = with_accounts (insert m.accounts a no_account) m;
}

abbrev pub registering : Model → ℕ → ℕ → ℤ → Rule Model
registering m a i x = record {
  checks = register_checks x (invoice_in m i).here (full 64 m.invoices);
  done = with_invoices (insert m.invoices i (invoice_of a x)) m;
}

-- ── Create: its checks; 11. Offered total grows; total_offers and offers_pending grow by 1 ──
abbrev pub creating : Model → ℕ → ℕ → ℕ → Terms → ℕ → Rule Model
creating m a o i t e = record {
  checks =
      create_checks a (account_in m a).row t (invoice_in m i) (offer_in m o).here (full 64 m.offers)
      ++ ((offer_of (account_in m a).row t).checks ++ (count_of m.totals).checks);
  done = record {
    accounts = adjust m.accounts a (λ old. (offer_of (account_in m a).row t).done);
    invoices = m.invoices;
    offers = insert m.offers o (new_deal a i t e);
    totals = (count_of m.totals).done;
    settings = m.settings;
  };
}

-- ── Settlement, used by accept, amend and counter alike ───────────
abbrev pub lender_of : Model → ℕ → ℕ
lender_of m o = (offer_in m o).row.offer.lender

abbrev pub originator_of : Model → ℕ → ℕ
originator_of m o = (paper_of m o).row.originator

abbrev pub terms_in : Model → ℕ → Terms
terms_in m o = (offer_in m o).row.offer.terms

-- the transfer and the lender's accepted total, then the financed total; the offer is Accepted now, its negotiation too if it runs, the invoice Financed
unfoldable pub settling : ℕ → ℕ → Model → Rule Model
settling now o m = record {
  checks = (settle_accounts m.accounts (lender_of m o) (originator_of m o) (terms_in m o)).checks ++ (finance_of m.totals (terms_in m o)).checks;
  done = record {
    accounts = (settle_accounts m.accounts (lender_of m o) (originator_of m o) (terms_in m o)).done;
    invoices = adjust m.invoices (offer_in m o).row.offer.invoice (λ old. financed (paper_of m o).row);
    offers = adjust m.offers o (λ old. settled_deal now (offer_in m o).row);
    totals = (finance_of m.totals (terms_in m o)).done;
    settings = m.settings;
  };
}

abbrev pub accepting : Model → ℕ → ℕ → ℕ → Rule Model
accepting m now a o = next (record { checks = accept_checks (offer_in m o) now a (paper_of m o); done = m }) (settling now o)

-- ── Agreement: its checks, then settle. A refusal here undoes the round too ──
unfoldable pub concluding : ℕ → ℕ → Model → Rule Model
concluding now o m = next
    (record {
      checks = agreement_checks (offer_in m o).row now (paper_of m o) (account_in m (lender_of m o)) (account_in m (originator_of m o));
      done = m;
    })
    (settling now o)

unfoldable pub agreeing : Bool → ℕ → ℕ → Model → Rule Model
agreeing agreed now o m = pick agreed (concluding now o m) (sure m)

-- ── Amend: the offered total moves by the new amount minus the old, else 11; the offer takes the terms; the round is added. It agrees when the originator's latest round has the same three terms ──
abbrev pub with_lender_round : Model → ℕ → ℕ → ℕ → Account.Account → Terms → Model
with_lender_round m now a o r t =
    with_accounts (adjust m.accounts a (λ old. r))
    (with_offers (adjust m.offers o (λ old. amended_deal now m.settings.window t (offer_in m o).row)) m)

abbrev pub amended_in : Model → ℕ → ℕ → ℕ → Terms → Model
amended_in m now a o t = with_lender_round m now a o (reoffer_of (account_in m a).row (terms_in m o) t).done t

abbrev pub amends_in : Model → ℕ → ℕ → ℕ → Terms → ℕ → List Check
amends_in m now a o t round = amend_checks m.settings.edition (offer_in m o) now a (account_in m a).row t round (paper_of m o)

abbrev pub amending : Model → ℕ → ℕ → ℕ → Terms → ℕ → Rule Model
amending m now a o t round = next
    (record {
      checks = amends_in m now a o t round ++ (reoffer_of (account_in m a).row (terms_in m o) t).checks;
      done = amended_in m now a o t;
    })
    (agreeing (agrees_of round_slots (offer_in m o).row.negotiation t) now o)

-- ── Counter: the round is added; it agrees when equal to the offer's present terms ──
abbrev pub countered_in : Model → ℕ → ℕ → Terms → Model
countered_in m now o t = with_offers (adjust m.offers o (λ old. countered_deal now m.settings.window t (offer_in m o).row)) m

abbrev pub counters_in : Model → ℕ → ℕ → ℕ → Terms → ℕ → List Check
counters_in m now a o t round = counter_checks m.settings.edition (offer_in m o) now a (account_in m a).row t round (paper_of m o)

abbrev pub countering : Model → ℕ → ℕ → ℕ → Terms → ℕ → Rule Model
countering m now a o t round = next
    (record {
      checks = counters_in m now a o t round;
      done = countered_in m now o t;
    })
    (agreeing (same_terms (terms_in m o) t) now o)

-- ── The rule of each command ──────────────────────────────────────
unfoldable pub account_rule : Model → ℕ → OnAccount → Rule Account.Account
account_rule m a (deposits x) = deposit_of (account_in m a).row x
account_rule m a (pays x) = payout_of (account_in m a).row x
account_rule m a (approves x) = approve_of (account_in m a).row x
account_rule m a (lender_repaid b f) = lender_repaid_of (account_in m a) (is_repayer m.settings b) f
account_rule m a (blacklists p c) = blacklist_of (account_in m a) (admin_passes m.settings p) c

unfoldable pub offer_rule : Model → ℕ → OnOffer → Rule Deal
offer_rule m o (withdraws a) = withdraw_of (offer_in m o) a
offer_rule m o (rejects a) = reject_of (offer_in m o) a (paper_of m o)
offer_rule m o (closes now a) = close_of (offer_in m o) now a (paper_of m o)
offer_rule m o (schedules now a n c d k) = schedule_of m.settings.edition (offer_in m o) now a n c d k (paper_of m o)
offer_rule m o (marks a c) = status_update_of (offer_in m o) (is_repayer m.settings a) c
offer_rule m o (repaid a x) = repaid_update_of (offer_in m o) (is_repayer m.settings a) x

unfoldable pub settings_rule : Model → OnSettings → Rule Settings
settings_rule m (pauses p b) = pause_of m.settings p b
settings_rule m (waits p w) = window_of m.settings p w
settings_rule m (appoints p i) = repayer_of m.settings p i (account_in m i).here
settings_rule m (seats p h q) = seats_of m.settings p h q

unfoldable pub ruled : Model → Shape → Rule Model
ruled m (opens a) = opening m a
ruled m (account a u) = on_account m a (account_rule m a u)
ruled m (registers a i x) = registering m a i x
ruled m (cancels a i) = on_invoice m i (cancel_of (invoice_in m i) a)
ruled m (creates a o i t e) = creating m a o i t e
ruled m (offer o u) = on_offer m o (offer_rule m o u)
ruled m (accepts now a o) = accepting m now a o
ruled m (amends now a o t n) = amending m now a o t n
ruled m (counters now a o t n) = countering m now a o t n
ruled m (totals a x f) = on_totals m (repay_of m.totals (is_repayer m.settings a) x f)
ruled m (settings u) = on_settings m (settings_rule m u)

-- the whole of a command: what stands before every one, then its own rule
abbrev pub shaped : Model → Shape → Rule Model
shaped m c = next (record { checks = gate_checks m c; done = m }) (λ n. ruled n c)

abbrev pub commanded : Model → Command → Rule Model
commanded m c = shaped m (shape_of c)
