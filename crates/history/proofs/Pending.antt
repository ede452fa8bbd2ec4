-- An invoice that is not Pending never is again, whatever is commanded.
use Rattle.std.specs.Prelude.{ℕ, ◌≤◌, ◌≡◌, Bool, true, false, List, [], ◌∷◌}
use Rattle.std.proofs.Common.{arith, eq-eqb, ne_eqb}
use Rattle.refusal.specs.Choice.{pick}
use Rattle.refusal.specs.ChoiceLaws.{pick_off}
use Rattle.table.specs.Tables.{Found, find}
use Rattle.invoice.specs.declared.Invoice.{Invoice}
use Rattle.invoice.specs.Seen.{seen_invoice}
use Rattle.command.specs.declared.Command.{Command}
use Rattle.rules.specs.Model.{Model, invoice_in}
use Rattle.soundness.specs.Sound.{ModelSound}
use Rattle.history.specs.History.{Entry, opens, deposits, pays, registers, deals, nothing, entry_of, settles}
use Rattle.history.specs.Ledger.{Ledger, noted, sold, post, ledger, shut, start}
use Rattle.history.specs.Papers.{open_pending}
use Rattle.history.specs.Run.{from}
use Rattle.history.proofs.Demand.{holds_since}

-- what was sold stays sold
sold_stays : (e : Entry) (l : Ledger) (i : ℕ) → l.papers.sales i ≤ (post e l).papers.sales i
unfolding post pick
sold_stays (opens a) l i = omega arith
sold_stays (deposits a x) l i = omega arith
sold_stays (pays a x) l i = omega arith
sold_stays (registers a k) l i = omega arith
sold_stays (deals o d) l i = go (settles (l.bargains o).terms (l.bargains o).counter d)
  where
    go : (g : Bool) → l.papers.sales i ≤ (pick g (sold o (noted o d l)) (noted o d l)).papers.sales i
    go true = omega arith
    go false = omega arith
sold_stays nothing l i = omega arith

sales_stay : (l : Ledger) (h : List Command) (i : ℕ) → l.papers.sales i ≤ (ledger l h).papers.sales i
unfolding ledger
sales_stay l [] i = omega arith
sales_stay l (c ∷ h) i = omega (arith, sales_stay l h i, sold_stays (entry_of c) (ledger l h) i)

shut_is : (f : Found Invoice) → ((seen_invoice f).row.status ≡ 0 → ⊥) → shut f ≡ 1
unfolding shut
shut_is f h = pick_off 0 1 (ne_eqb _ _ h)

-- from any sound book, after any commands
pub never_pending : (s : Model) → ModelSound s → (i : ℕ) → ((invoice_in s i).row.status ≡ 0 → ⊥) → (cs : List Command) → (invoice_in (from s cs).model i).row.status ≡ 0 → ⊥
never_pending s y i h cs e =
    omega (arith, shut_is (find s.invoices i) h, sales_stay (start s) (from s cs).history i, (holds_since s y cs).agrees.papers.once i, open_pending (find (from s cs).model.invoices i) (eq-eqb _ _ e))
