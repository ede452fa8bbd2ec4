-- Document 01, "History sums": what the accepted commands alone say. A history is the list of them, the latest first; no book is looked at.
use Rattle.std.specs.Prelude.{ℕ, Bool, true, false, List, [], ◌∷◌, eqb, ℤ, pos, ◌+ℤ◌, ◌-ℤ◌}
use Rattle.refusal.specs.Choice.{pick}
use Rattle.table.specs.Tables.{Found, absent, here, find, row}
use Rattle.terms.specs.Terms.{same_terms}
use Rattle.terms.specs.declared.Terms.{Terms}
use Rattle.negotiation.specs.Rounds.{matches}
use Rattle.command.specs.declared.Command.{Command}
use Rattle.command.specs.Shape as Shape

-- ── What the sums read of a command ───────────────────────────────
-- on one offer
pub data Deed : Type 0 where
  creates : (lender invoice : ℕ) → Terms → Deed
  amends counters : Terms → Deed
  accepts : Deed

pub data Entry : Type 0 where
  opens : (account : ℕ) → Entry
  deposits pays : (account : ℕ) → ℤ → Entry
  registers : (originator invoice : ℕ) → Entry
  deals : (offer : ℕ) → Deed → Entry
  nothing : Entry

unfoldable pub account_entry : ℕ → Shape.OnAccount → Entry
account_entry a (Shape.deposits x) = deposits a x
account_entry a (Shape.pays x) = pays a x
account_entry a (Shape.approves x) = nothing
account_entry a (Shape.lender_repaid b f) = nothing
account_entry a (Shape.blacklists p c) = nothing

unfoldable pub entry_for : Shape.Shape → Entry
entry_for (Shape.opens a) = opens a
entry_for (Shape.account a u) = account_entry a u
entry_for (Shape.registers a i x) = registers a i
entry_for (Shape.cancels a i) = nothing
entry_for (Shape.creates a o i t e) = deals o (creates a i t)
entry_for (Shape.offer o u) = nothing
entry_for (Shape.accepts now a o) = deals o accepts
entry_for (Shape.amends now a o t n) = deals o (amends t)
entry_for (Shape.counters now a o t n) = deals o (counters t)
entry_for (Shape.totals a x f) = nothing
entry_for (Shape.settings u) = nothing

abbrev pub entry_of : Command → Entry
entry_of c = entry_for (Shape.shape_of c)

-- ── An offer's terms are those of its last create or amend ────────
-- of what was done on the offer, the latest first
unfoldable pub terms_said : List Deed → Terms
terms_said [] = record { amount = pos 0; rate = 0; duration = 0 }
terms_said (creates a i t ∷ l) = t
terms_said (amends t ∷ l) = t
terms_said (counters t ∷ l) = terms_said l
terms_said (accepts ∷ l) = terms_said l

-- the latest counter on it
unfoldable pub counter_of : List Deed → Found Terms
counter_of [] = absent
counter_of (creates a i t ∷ l) = absent
counter_of (amends t ∷ l) = counter_of l
counter_of (counters t ∷ l) = here t
counter_of (accepts ∷ l) = counter_of l

-- who created it, and on which invoice
unfoldable pub lender_said : List Deed → ℕ
lender_said [] = 0
lender_said (creates a i t ∷ l) = a
lender_said (amends t ∷ l) = lender_said l
lender_said (counters t ∷ l) = lender_said l
lender_said (accepts ∷ l) = lender_said l

unfoldable pub invoice_of : List Deed → ℕ
invoice_of [] = 0
invoice_of (creates a i t ∷ l) = i
invoice_of (amends t ∷ l) = invoice_of l
invoice_of (counters t ∷ l) = invoice_of l
invoice_of (accepts ∷ l) = invoice_of l

-- ── A command settles if it is an accept, an amend equal to the latest counter on that offer, or a counter equal to the terms then ──
unfoldable pub settles : Terms → Found Terms → Deed → Bool
settles terms counter (creates a i t) = false
settles terms counter (amends t) = matches t counter
settles terms counter (counters t) = same_terms terms t
settles terms counter accepts = true

pub record Settlement : Type 0 where
  pub lender : ℕ
  pub originator : ℕ
  pub invoice : ℕ
  pub terms : Terms

-- ── What a history says, in lists with the latest first ───────────
-- accounts opened; deposits and payouts, each with its account; originators, each after its invoice; offers created; deeds, each after its offer; settlements
pub record Said : Type 0 where
  pub accounts : List ℕ
  pub deposited : List (ℕ × ℤ)
  pub paid : List (ℕ × ℤ)
  pub originators : List (ℕ × ℕ)
  pub offers : List ℕ
  pub deeds : List (ℕ × Deed)
  pub settlements : List Settlement

module _ {A : Type 0} where
  unfoldable pub grow : Found A → List A → List A
  grow absent l = l
  grow (here x) l = x ∷ l

-- those on one offer
unfoldable pub deeds_on : ℕ → List (ℕ × Deed) → List Deed
deeds_on o [] = []
deeds_on o (e ∷ l) = pick (eqb e.0 o) (e.1 ∷ deeds_on o l) (deeds_on o l)

abbrev pub settlement_of : Said → List Deed → Settlement
settlement_of r l = record { lender = lender_said l; originator = row 0 (find r.originators (invoice_of l)); invoice = invoice_of l; terms = terms_said l }

unfoldable pub settled_by : Said → List Deed → Deed → Found Settlement
settled_by r l d = pick (settles (terms_said l) (counter_of l) d) (here (settlement_of r (d ∷ l))) absent

unfoldable pub created_by : ℕ → Deed → Found ℕ
created_by o (creates a i t) = here o
created_by o (amends t) = absent
created_by o (counters t) = absent
created_by o accepts = absent

-- a deed, and the settlement that it is, if it is one
abbrev pub dealt : ℕ → Deed → Found Settlement → Said → Said
dealt o d s r = record { accounts = r.accounts; deposited = r.deposited; paid = r.paid; originators = r.originators; offers = grow (created_by o d) r.offers; deeds = (o, d) ∷ r.deeds; settlements = grow s r.settlements }

unfoldable pub add : Entry → Said → Said
add (opens a) r = record { accounts = a ∷ r.accounts; deposited = r.deposited; paid = r.paid; originators = r.originators; offers = r.offers; deeds = r.deeds; settlements = r.settlements }
add (deposits a x) r = record { accounts = r.accounts; deposited = (a, x) ∷ r.deposited; paid = r.paid; originators = r.originators; offers = r.offers; deeds = r.deeds; settlements = r.settlements }
add (pays a x) r = record { accounts = r.accounts; deposited = r.deposited; paid = (a, x) ∷ r.paid; originators = r.originators; offers = r.offers; deeds = r.deeds; settlements = r.settlements }
add (registers a i) r = record { accounts = r.accounts; deposited = r.deposited; paid = r.paid; originators = (i, a) ∷ r.originators; offers = r.offers; deeds = r.deeds; settlements = r.settlements }
add (deals o d) r = dealt o d (settled_by r (deeds_on o r.deeds) d) r
add nothing r = r

abbrev pub silence : Said
silence = record { accounts = []; deposited = []; paid = []; originators = []; offers = []; deeds = []; settlements = [] }

-- after what was said before
unfoldable pub read_after : Said → List Command → Said
read_after r [] = r
read_after r (c ∷ h) = add (entry_of c) (read_after r h)

abbrev pub read : List Command → Said
read h = read_after silence h

-- ── The sums ──────────────────────────────────────────────────────
module _ {A : Type 0} where
  unfoldable pub sum : (A → ℤ) → List A → ℤ
  sum f [] = pos 0
  sum f (x ∷ l) = sum f l +ℤ f x

-- x where a is the account b, else 0
unfoldable pub share : ℕ → ℕ → ℤ → ℤ
share a b x = pick (eqb a b) x (pos 0)

-- Offered(L): present amounts of all offers L created
unfoldable pub offered : Said → ℕ → ℤ
offered r a = sum (λ o. let l = deeds_on o r.deeds in share (lender_said l) a (terms_said l).amount) r.offers

-- Accepted(L): amounts at which L's offers settled
unfoldable pub accepted : Said → ℕ → ℤ
accepted r a = sum (λ s. share s.lender a s.terms.amount) r.settlements

-- the same for the originators of the invoices that they are on
unfoldable pub received : Said → ℕ → ℤ
received r a = sum (λ s. share s.originator a s.terms.amount) r.settlements

-- the amounts of an account, and all of them
unfoldable pub amounts_of : List (ℕ × ℤ) → ℕ → ℤ
amounts_of l a = sum (λ p. share p.0 a p.1) l

unfoldable pub amounts : List (ℕ × ℤ) → ℤ
amounts l = sum (λ p. p.1) l

-- Balance(A): deposits − payouts − settled as lender + settled as originator
unfoldable pub balance : Said → ℕ → ℤ
balance r a = amounts_of r.deposited a -ℤ amounts_of r.paid a -ℤ accepted r a +ℤ received r a

-- Financed: the sum of Accepted over lenders
unfoldable pub financed : Said → ℤ
financed r = sum (accepted r) r.accounts

-- all balances together: accepted deposits less accepted payouts
unfoldable pub together : Said → ℤ
together r = amounts r.deposited -ℤ amounts r.paid
