-- From a book that is given: its rows stand for the commands before it, and the sums over the accepted commands after it are added to its figures.
use Rattle.std.specs.Prelude.{ℕ, ◌≡◌, List, [], ◌∷◌, ◌+ℤ◌, ◌-ℤ◌}
use Rattle.table.specs.Tables.{Found, absent, here, Table, keys}
use Rattle.terms.specs.declared.Terms.{Terms}
use Rattle.negotiation.specs.Rounds.{round_slots, asked}
use Rattle.invoice.specs.declared.Invoice.{Invoice}
use Rattle.offer.specs.declared.Deal.{Deal}
use Rattle.command.specs.declared.Command.{Command}
use Rattle.rules.specs.Model.{Model, account_in}
use Rattle.history.specs.History.{Deed, creates, counters, Said, read_after, sum, offered, accepted, balance, financed, together}

-- ── What its rows say was put down before ─────────────────────────
-- the latest counter, where there is one
unfoldable pub countered_on : ℕ → Found Terms → List (ℕ × Deed) → List (ℕ × Deed)
countered_on o absent l = l
countered_on o (here t) l = (o, counters t) ∷ l

-- each offer was created with its terms
unfoldable pub deeds_before : Table Deal → List (ℕ × Deed)
deeds_before [] = []
deeds_before (e ∷ t) = countered_on e.0 (asked round_slots e.1.negotiation) ((e.0, creates e.1.offer.lender e.1.offer.invoice e.1.offer.terms) ∷ deeds_before t)

unfoldable pub originators_before : Table Invoice → List (ℕ × ℕ)
originators_before [] = []
originators_before (e ∷ t) = (e.0, e.1.originator) ∷ originators_before t

-- no deposit, payout or settlement: these stand in its figures
abbrev pub said_before : Model → Said
said_before s = record { accounts = keys s.accounts; deposited = []; paid = []; originators = originators_before s.invoices; offers = keys s.offers; deeds = deeds_before s.offers; settlements = [] }

abbrev pub read_since : Model → List Command → Said
read_since s h = read_after (said_before s) h

-- ── The figures of m, after the accepted commands h from s ────────
-- offered: what a lender's offers are now, less what the starting ones were at the start
pub record MeetsSince (s : Model) (h : List Command) (m : Model) : Type 0 where
  pub offereds : (a : ℕ) → (account_in m a).row.purse.offered ≡ (account_in s a).row.purse.offered -ℤ offered (said_before s) a +ℤ offered (read_since s h) a
  pub accepteds : (a : ℕ) → (account_in m a).row.purse.accepted ≡ (account_in s a).row.purse.accepted +ℤ accepted (read_since s h) a
  pub balances : (a : ℕ) → (account_in m a).row.purse.balance ≡ (account_in s a).row.purse.balance +ℤ balance (read_since s h) a
  pub all_balances : sum (λ e. e.1.purse.balance) m.accounts ≡ sum (λ e. e.1.purse.balance) s.accounts +ℤ together (read_since s h)
  pub financed_total : m.totals.financed ≡ s.totals.financed +ℤ financed (read_since s h)
