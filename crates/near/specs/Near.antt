-- What one command sees of a book: the rows at its keys. A turn on these is the book's own step, seen so.
use Rattle.std.specs.Prelude.{ℕ, ◌≡◌, length, Bool, Result}
use Rattle.refusal.specs.Choice.{pick}
use Rattle.refusal.specs.declared.Refusal.{Refusal}
use Rattle.refusal.specs.Rule.{Rule, outcome, on_done}
use Rattle.table.specs.Named.{Named}
use Rattle.std.specs.Prelude.{Some}
use Rattle.account.specs.declared.Account.{Account}
use Rattle.terms.specs.declared.Terms.{Terms}
use Rattle.command.specs.declared.Command.{Command}
use Rattle.parties.specs.Parties.{parties_by}
use Rattle.rules.specs.Model.{Model, invoice_by, offer_by, offer_in}
use Rattle.rules.specs.Rules.{lender_of, originator_of, concluding, with_lender_round, countered_in}
use Rattle.rules.specs.Keys.{Keys, keys_by, keys_of}
use Rattle.near.specs.declared.Counts.{Counts}
use Rattle.near.specs.declared.Near.{Near}

abbrev pub view_of : Keys → Model → Near
view_of k m = record { parties = parties_by k.first k.second m.accounts; paper = invoice_by m k.paper; deal = offer_by m k.deal; totals = m.totals; settings = m.settings }

-- what a turn returns: what it leaves of what it saw, or a refusal
abbrev pub Turn : Type 0
Turn = Result Near Refusal

-- a rule of the book m, seen at keys
abbrev pub turn_of : Keys → Rule Model → Turn
turn_of k u = on_done (view_of k) (outcome u)

-- how many rows its tables have
abbrev pub counts_by : ℕ → ℕ → ℕ → Counts
counts_by a i o = record { accounts = a; invoices = i; offers = o }

abbrev pub counts_of : Model → Counts
counts_of m = counts_by (length m.accounts) (length m.invoices) (length m.offers)

-- ── A turn: whatever the book m is that shows these rows, r is what the rule u of it returns, seen at the same keys ──
abbrev pub Turns : Near → Turn → Keys → Model → Rule Model → Type 0
Turns n r k m u = n ≡ view_of k m → r ≡ turn_of k u

abbrev pub Anywhere : Near → Turn → (Model → Rule Model) → Type 0
Anywhere n r f = (k : Keys) (m : Model) → Turns n r k m (f m)

abbrev pub AtFirst : Near → Turn → (ℕ → Model → Rule Model) → Type 0
AtFirst n r f = (a : ℕ) (b i o : Named) (m : Model) → Turns n r (keys_by (Some a) b i o) m (f a m)

abbrev pub AtSecond : Near → Turn → (ℕ → Model → Rule Model) → Type 0
AtSecond n r f = (b : ℕ) (a i o : Named) (m : Model) → Turns n r (keys_by a (Some b) i o) m (f b m)

abbrev pub AtPaper : Near → Turn → (ℕ → Model → Rule Model) → Type 0
AtPaper n r f = (i : ℕ) (a b o : Named) (m : Model) → Turns n r (keys_by a b (Some i) o) m (f i m)

-- an offer with its invoice
abbrev pub deal_keys : Named → Named → Model → ℕ → Keys
deal_keys a b m o = keys_by a b (Some (offer_in m o).row.offer.invoice) (Some o)

abbrev pub AtDeal : Near → Turn → (ℕ → Model → Rule Model) → Type 0
AtDeal n r f = (o : ℕ) (a b : Named) (m : Model) → Turns n r (deal_keys a b m o) m (f o m)

-- ── An offer with its invoice and both parties; `lends`: the first is the lender, else the second is ──
abbrev pub sides_of : Bool → Model → ℕ → Keys
sides_of lends m o = deal_keys (Some (pick lends (lender_of m o) (originator_of m o))) (Some (pick lends (originator_of m o) (lender_of m o))) m o

abbrev pub BySides : Bool → Near → Turn → (ℕ → Model → Rule Model) → Type 0
BySides lends n r f = (o : ℕ) (m : Model) → Turns n r (sides_of lends m o) m (f o m)

-- what is seen once a round is added
abbrev pub SeesAmendment : Near → Near → ℕ → Account → Terms → Type 0
SeesAmendment n r now row t = (a o : ℕ) (b i : Named) (m : Model) → n ≡ view_of (keys_by (Some a) b i (Some o)) m → r ≡ view_of (keys_by (Some a) b i (Some o)) (with_lender_round m now a o row t)

abbrev pub SeesCounter : Near → Near → ℕ → Terms → Type 0
SeesCounter n r now t = (o : ℕ) (a b i : Named) (m : Model) → n ≡ view_of (keys_by a b i (Some o)) m → r ≡ view_of (keys_by a b i (Some o)) (countered_in m now o t)

-- ── The turn of a command ─────────────────────────────────────────
abbrev pub TurnsBy : Near → Turn → Command → Counts → (Model → Rule Model) → Type 0
TurnsBy n r c k u = (m : Model) → k ≡ counts_of m → Turns n r (keys_of m c) m (u m)
