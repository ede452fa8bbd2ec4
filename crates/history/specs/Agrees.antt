-- What it is for a ledger to agree with a book, table by table.
use Rattle.std.specs.Prelude.{ℕ, ◌≤◌, ◌≡◌, refl}
use Rattle.std.proofs.Common.{arith}
use Rattle.table.specs.Tables.{Table, find}
use Rattle.negotiation.specs.Rounds.{round_slots}
use Rattle.negotiation.specs.Whole.{Whole}
use Rattle.account.specs.declared.Account.{Account}
use Rattle.invoice.specs.declared.Invoice.{Invoice}
use Rattle.offer.specs.declared.Deal.{Deal}
use Rattle.offer.specs.Seen.{seen_deal}
use Rattle.rules.specs.Model.{Model}
use Rattle.history.specs.Figures.{tally}
use Rattle.history.specs.Ledger.{Bargain, Papers, Purses, Ledger, balance_of, offered_of, accepted_in, originator_in, shut, bargain_of, start}

-- every negotiation has all the rounds that its type says
abbrev pub Rounds : Table Deal → Type 0
Rounds t = (o : ℕ) → Whole round_slots (seen_deal (find t o)).row.negotiation

pub record Bargained (b : ℕ → Bargain) (t : Table Deal) : Type 0 where
  pub shown : (o : ℕ) → bargain_of (find t o) ≡ b o
  pub rounds : Rounds t

-- an invoice that was settled is not Pending
pub record Papered (p : Papers) (t : Table Invoice) : Type 0 where
  pub originators : (i : ℕ) → originator_in (find t i) ≡ p.originators i
  pub once : (i : ℕ) → p.sales i ≤ shut (find t i)

pub record Pursed (q : Purses) (t : Table Account) : Type 0 where
  pub balances : (a : ℕ) → balance_of (find t a) ≡ q.balances a
  pub offereds : (a : ℕ) → offered_of (find t a) ≡ q.offereds a
  pub accepteds : (a : ℕ) → accepted_in (find t a) ≡ q.accepteds a
  pub together : tally balance_of t ≡ q.together

pub record Agrees (l : Ledger) (m : Model) : Type 0 where
  pub bargains : Bargained l.bargains m.offers
  pub papers : Papered l.papers m.invoices
  pub purses : Pursed l.purses m.accounts
  pub financed : m.totals.financed ≡ l.financed

pub begins : (m : Model) → Rounds m.offers → Agrees (start m) m
begins m w = record {
  bargains = record { shown = λ o. refl; rounds = w };
  papers = record { originators = λ i. refl; once = λ i. omega arith };
  purses = record { balances = λ a. refl; offereds = λ a. refl; accepteds = λ a. refl; together = refl };
  financed = refl;
}
