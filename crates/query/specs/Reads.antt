-- Document 01, module 6: what each query reads of the book. A row that is absent is read as the zero row.
use Rattle.std.specs.Prelude.{ℕ, not, List, [], ◌∷◌, map, length}
use Rattle.refusal.specs.Choice.{pick}
use Rattle.refusal.specs.Refusal.{◌gives◌, not_found, book_unsound}
use Rattle.refusal.specs.Rule.{Rule, sure, answered}
use Rattle.terms.specs.Schedule.{schedule_zero}
use Rattle.terms.specs.declared.Schedule.{Schedule}
use Rattle.table.specs.Tables.{Table}
use Rattle.negotiation.specs.declared.Negotiation.{Negotiation}
use Rattle.offer.specs.Rules.{standing}
use Rattle.offer.specs.declared.Offer.{Offer}
use Rattle.offer.specs.Seen.{SeenDeal}
use Rattle.lists.specs.declared.Wanted.{Wanted}
use Rattle.lists.specs.Listing.{Reply, ten_of, list_rule, told}
use Rattle.lists.specs.Active.{active_of}
use Rattle.book.specs.declared.Book.{Book}
use Rattle.rules.specs.Model.{Model, account_in, offer_in}
use Rattle.book.specs.Stored.{model_of, book_test}
use Rattle.query.specs.declared.ScheduleNumbers.{ScheduleNumbers}
use Rattle.query.specs.declared.LenderNumbers.{LenderNumbers}
use Rattle.query.specs.declared.TotalsNumbers.{TotalsNumbers}
use Rattle.query.specs.Numbers.{schedule_numbers, lender_numbers, totals_numbers, due_in, flag}

-- 15 comes first
abbrev pub on_sound : {A : Type 0} → Book → (Model → Rule A) → Rule A
on_sound b q = record { checks = (not (book_test b) gives book_unsound) ∷ (q (model_of b)).checks; done = (q (model_of b)).done }

abbrev pub reply : ℕ → List ℕ → Reply
reply n values = (n, values)

-- the answer's number and values
abbrev pub asked : Book → (Model → Rule (List ℕ)) → Reply
asked b q = answered reply [] (on_sound b q)

-- ── Lists: offers by invoice, lender, status, invoice and Pending, all, or a page, into a lent buffer ──
abbrev pub offers_in : Model → Table Offer
offers_in m = map (λ e. (e.0, e.1.offer)) m.offers

-- the answer, and the buffer after it
abbrev pub list_read : Book → Wanted → List ℕ → Reply × List ℕ
list_read b w l = answered told ([], l) (on_sound b (λ m. list_rule w (offers_in m) l))

-- ── `get_lender_active_total` sums Accepted and Financed. An unopened lender's figures are zeros ──
abbrev pub active_read : ℕ → Model → Rule (List ℕ)
active_read lender m = sure (active_of lender (offers_in m) ∷ [])

abbrev pub lender_order : LenderNumbers → List ℕ
lender_order n = n.offered ∷ n.accepted ∷ n.pending ∷ n.repaid ∷ []

abbrev pub lender_read : ℕ → Model → Rule (List ℕ)
lender_read lender m = sure (lender_order (lender_numbers (account_in m lender).row))

-- ── One offer, absent, gives 4; an absent schedule is its own answer; an absent negotiation has no rounds and deadline 0 ──
abbrev pub deal_read : ℕ → SeenDeal → Rule (List ℕ)
deal_read id s = record { checks = (not s.here gives not_found) ∷ []; done = ten_of (id, s.row.offer) }

abbrev pub offer_read : ℕ → Model → Rule (List ℕ)
offer_read id m = deal_read id (offer_in m id)

abbrev pub schedule_order : ScheduleNumbers → List ℕ
schedule_order n = n.count ∷ n.code ∷ n.installment ∷ n.first ∷ n.kind ∷ []

-- no values where there is no schedule
unfoldable pub schedule_values : Schedule → List ℕ
schedule_values s = pick (schedule_zero s) [] (schedule_order (schedule_numbers s))

abbrev pub schedule_read : ℕ → Model → Rule (List ℕ)
schedule_read id m = sure (schedule_values (offer_in m id).row.schedule)

abbrev pub negotiation_read : ℕ → Model → Rule Negotiation
negotiation_read id m = sure (offer_in m id).row.negotiation

abbrev pub deadline_read : ℕ → Model → Rule (List ℕ)
deadline_read id m = sure ((offer_in m id).row.negotiation.deadline ∷ [])

-- the negotiation's status, and the installment due with what is owed on it, at a time
abbrev pub status_read : ℕ → ℕ → Model → Rule (List ℕ)
status_read now id m = sure (standing (offer_in m id) now ∷ [])

abbrev pub due_order : ℕ × ℕ → List ℕ
due_order d = d.0 ∷ d.1 ∷ []

abbrev pub due_read : ℕ → ℕ → Model → Rule (List ℕ)
due_read now id m = sure (due_order (due_in m.settings.edition (offer_in m id).row now))

-- ── Offer count, totals, window, seats, threshold and pause are read too ──
abbrev pub count_read : Model → Rule (List ℕ)
count_read m = sure (length m.offers ∷ [])

abbrev pub totals_order : TotalsNumbers → List ℕ
totals_order n = n.offers ∷ n.financed ∷ n.repaid ∷ n.fees ∷ []

abbrev pub totals_read : Model → Rule (List ℕ)
totals_read m = sure (totals_order (totals_numbers m.totals))

abbrev pub window_read : Model → Rule (List ℕ)
window_read m = sure (m.settings.window ∷ [])

abbrev pub seats_read : Model → Rule (List ℕ)
seats_read m = sure (m.settings.seats ∷ [])

abbrev pub threshold_read : Model → Rule (List ℕ)
threshold_read m = sure (m.settings.threshold ∷ [])

abbrev pub pause_read : Model → Rule (List ℕ)
pause_read m = sure (flag m.settings.paused ∷ [])
