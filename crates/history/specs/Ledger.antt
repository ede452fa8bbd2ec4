-- An abstract ledger of accepted commands, and what it is to agree with a book. It starts with the figures that a book holds, whose terms and rounds stand for the commands before.
use Rattle.std.specs.Prelude.{ℕ, ◌+◌, List, [], ◌∷◌, eqb, ℤ, ◌+ℤ◌, ◌-ℤ◌, neg_ℤ}
use Rattle.refusal.specs.Choice.{pick}
use Rattle.table.specs.Tables.{Found, absent, here, find, hit}
use Rattle.terms.specs.declared.Terms.{Terms}
use Rattle.negotiation.specs.Rounds.{round_slots, asked}
use Rattle.account.specs.declared.Account.{Account}
use Rattle.invoice.specs.declared.Invoice.{Invoice}
use Rattle.offer.specs.declared.Deal.{Deal}
use Rattle.account.specs.Seen.{seen_account}
use Rattle.invoice.specs.Seen.{seen_invoice}
use Rattle.offer.specs.Seen.{seen_deal}
use Rattle.command.specs.declared.Command.{Command}
use Rattle.rules.specs.Model.{Model}
use Rattle.history.specs.History.{Deed, creates, amends, counters, accepts, Entry, opens, deposits, pays, registers, deals, nothing, entry_of, settles, share}
use Rattle.history.specs.Figures.{tally}

-- what was put down last on an offer
pub record Bargain : Type 0 where
  pub lender : ℕ
  pub invoice : ℕ
  pub terms : Terms
  pub counter : Found Terms

-- each invoice's originator, and how often it was settled; one that is not Pending at the start counts as settled
pub record Papers : Type 0 where
  pub originators : ℕ → ℕ
  pub sales : ℕ → ℕ

pub record Purses : Type 0 where
  pub balances : ℕ → ℤ
  pub offereds : ℕ → ℤ
  pub accepteds : ℕ → ℤ
  pub together : ℤ

pub record Ledger : Type 0 where
  pub bargains : ℕ → Bargain
  pub papers : Papers
  pub purses : Purses
  pub financed : ℤ

-- ── What a command changes ────────────────────────────────────────
-- the balance of a moves by x; its offered total does
abbrev pub banked : ℕ → ℤ → Purses → Purses
banked a x q = record { balances = λ j. q.balances j +ℤ share a j x; offereds = q.offereds; accepteds = q.accepteds; together = q.together +ℤ x }

abbrev pub offering : ℕ → ℤ → Purses → Purses
offering a x q = record { balances = q.balances; offereds = λ j. q.offereds j +ℤ share a j x; accepteds = q.accepteds; together = q.together }

-- a pays b, who sells to it
abbrev pub paying : ℕ → ℕ → ℤ → Purses → Purses
paying a b x q = record {
  balances = λ j. q.balances j +ℤ share a j (neg_ℤ x) +ℤ share b j x;
  offereds = q.offereds;
  accepteds = λ j. q.accepteds j +ℤ share a j x;
  together = q.together;
}

unfoldable pub said : Deed → Bargain → Bargain
said (creates a i t) k = record { lender = a; invoice = i; terms = t; counter = absent }
said (amends t) k = record { lender = k.lender; invoice = k.invoice; terms = t; counter = k.counter }
said (counters t) k = record { lender = k.lender; invoice = k.invoice; terms = k.terms; counter = here t }
said accepts k = k

abbrev pub said_on : ℕ → Deed → (ℕ → Bargain) → ℕ → Bargain
said_on o d b j = pick (eqb o j) (said d (b j)) (b j)

-- offered totals: a create adds its amount, an amend the new amount less the old
unfoldable pub raised : Deed → Bargain → (ℕ → ℤ) → ℕ → ℤ
raised (creates a i t) k f j = f j +ℤ share a j t.amount
raised (amends t) k f j = f j +ℤ share k.lender j (t.amount -ℤ k.terms.amount)
raised (counters t) k f j = f j
raised accepts k f j = f j

abbrev pub noted : ℕ → Deed → Ledger → Ledger
noted o d l = record {
  bargains = said_on o d l.bargains;
  papers = l.papers;
  purses = record { balances = l.purses.balances; offereds = raised d (l.bargains o) l.purses.offereds; accepteds = l.purses.accepteds; together = l.purses.together };
  financed = l.financed;
}

abbrev pub issued : ℕ → ℕ → Papers → Papers
issued a i p = record { originators = λ j. pick (eqb i j) a (p.originators j); sales = p.sales }

abbrev pub selling_off : ℕ → Papers → Papers
selling_off i p = record { originators = p.originators; sales = λ j. p.sales j + hit i j 1 }

-- a bargain is settled at its terms, from its lender to its invoice's originator
abbrev pub struck : Bargain → Ledger → Ledger
struck k l = record {
  bargains = l.bargains;
  papers = selling_off k.invoice l.papers;
  purses = paying k.lender (l.papers.originators k.invoice) k.terms.amount l.purses;
  financed = l.financed +ℤ k.terms.amount;
}

abbrev pub sold : ℕ → Ledger → Ledger
sold o l = struck (l.bargains o) l

abbrev pub with_purses : Purses → Ledger → Ledger
with_purses q l = record { bargains = l.bargains; papers = l.papers; purses = q; financed = l.financed }

unfoldable pub post : Entry → Ledger → Ledger
post (opens a) l = l
post (deposits a x) l = with_purses (banked a x l.purses) l
post (pays a x) l = with_purses (banked a (neg_ℤ x) l.purses) l
post (registers a i) l = record { bargains = l.bargains; papers = issued a i l.papers; purses = l.purses; financed = l.financed }
post (deals o d) l = pick (settles (l.bargains o).terms (l.bargains o).counter d) (sold o (noted o d l)) (noted o d l)
post nothing l = l

-- after accepted commands, the latest first
unfoldable pub ledger : Ledger → List Command → Ledger
ledger l [] = l
ledger l (c ∷ h) = post (entry_of c) (ledger l h)

-- ── What a book shows of it ───────────────────────────────────────
abbrev pub balance_of : Found Account → ℤ
balance_of s = (seen_account s).row.purse.balance

abbrev pub offered_of : Found Account → ℤ
offered_of s = (seen_account s).row.purse.offered

abbrev pub accepted_in : Found Account → ℤ
accepted_in s = (seen_account s).row.purse.accepted

abbrev pub originator_in : Found Invoice → ℕ
originator_in s = (seen_invoice s).row.originator

unfoldable pub shut : Found Invoice → ℕ
shut s = pick (eqb (seen_invoice s).row.status 0) 0 1

abbrev pub bargain_of : Found Deal → Bargain
bargain_of s = record {
  lender = (seen_deal s).row.offer.lender;
  invoice = (seen_deal s).row.offer.invoice;
  terms = (seen_deal s).row.offer.terms;
  counter = asked round_slots (seen_deal s).row.negotiation;
}

abbrev pub start : Model → Ledger
start m = record {
  bargains = λ o. bargain_of (find m.offers o);
  papers = record { originators = λ i. originator_in (find m.invoices i); sales = λ i. shut (find m.invoices i) };
  purses = record {
    balances = λ a. balance_of (find m.accounts a);
    offereds = λ a. offered_of (find m.accounts a);
    accepteds = λ a. accepted_in (find m.accounts a);
    together = tally balance_of m.accounts;
  };
  financed = m.totals.financed;
}
