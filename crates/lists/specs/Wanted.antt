-- Document 01, module 6: which offers a list query asks for. The first offer stands at place 0.
use Rattle.std.specs.Prelude.{ℕ, ◌-◌, Option, Some, None, Bool, true, ◌&&◌, leb, ltb, eqb}
use Rattle.refusal.specs.Choice.{pick}
use Rattle.terms.specs.Status.{status_pending, status_listed}
use Rattle.offer.specs.declared.Offer.{Offer}
use Rattle.lists.specs.declared.Wanted.{Wanted}
use Rattle.lists.specs.declared.Wanted.TheVariants.{Invoice, Lender, Status, PendingOf, Page}
use Rattle.lists.specs.declared.Wanted.TheVariants as Wants

-- from the offset on, at most as many as the limit
unfoldable pub paged : ℕ → ℕ → ℕ → Bool
paged offset limit place = leb offset place && ltb (place - offset) limit

-- by invoice, lender, status, invoice and Pending, all, or a page
unfoldable pub wants : Wanted → ℕ → Offer → Bool
wants (Invoice i) place o = eqb o.invoice i
wants (Lender l) place o = eqb o.lender l
wants (Status s) place o = eqb o.status s
wants (PendingOf i) place o = eqb o.invoice i && eqb o.status status_pending
wants Wants.All place o = true
wants (Page offset limit) place o = paged offset limit place

-- a status that is asked for is a listed one
unfoldable pub known : Wanted → Bool
known (Invoice i) = true
known (Lender l) = true
known (Status s) = status_listed s
known (PendingOf i) = true
known Wants.All = true
known (Page offset limit) = true

-- ── Lists of offers by a number: 1 by invoice, 2 by lender, 3 by status, 4 by invoice and Pending, 5 all, 6 a page; any other gives 3 ──
unfoldable pub wanted_of : ℕ → ℕ → ℕ → Option Wanted
wanted_of kind a b =
    pick (eqb kind 1) (Some (Invoice a))
    (pick (eqb kind 2) (Some (Lender a))
    (pick (eqb kind 3) (pick (ltb 4294967295 a) None (Some (Status a)))
    (pick (eqb kind 4) (Some (PendingOf a))
    (pick (eqb kind 5) (Some Wants.All)
    (pick (eqb kind 6) (Some (Page a b)) None)))))
