-- Nobody is bound to terms that they did not put down, and no invoice is settled twice: from a fresh book, after any commands.
use Prim.Native.Nat.{ℕ, ◌+◌, ◌≤◌}
use Rattle.std.proofs.Common.{arith, subst, ◌∙◌}
use Rattle.std.specs.Prelude.{◌≡◌, refl, Bool, true, false, List, [], ◌∷◌, eqb}
use Rattle.std.proofs.Math.Path.{sym, ap}
use borrow.Author.Tests.{eqb-true, not-false}
use Rattle.refusal.specs.Choice.{pick}
use Rattle.table.specs.Tables.{absent, here, find, row, hit}
use Rattle.terms.specs.Answers.{same_terms_is}
use Rattle.terms.specs.declared.Terms.{Terms}
use Rattle.negotiation.specs.Latest.{matches_is}
use Rattle.command.specs.declared.Command.{Command}
use Rattle.command.specs.declared.Command.TheVariants.{AmendOffer, CounterOffer}
use Rattle.edition.specs.Edition.{listed}
use Rattle.rules.specs.Model.{Model, fresh_model, offer_in, paper_of}
use Rattle.command.specs.Shape.{shape_of}
use Rattle.rules.specs.Rules.{ruled, commanded}
use Rattle.history.specs.History.{Deed, creates, amends, counters, accepts, Entry, opens, deposits, pays, registers, deals, nothing, entry_of, terms_said, counter_of, lender_said, invoice_of, settles, Settlement, Said, grow, deeds_on, settlement_of, settled_by, add, read_after, read}
use Rattle.history.specs.Passed.{Passes, all_pass_lem}
use Rattle.history.specs.Ledger.{Bargain, Ledger, noted, post, ledger, bargain_of, shut}
use Rattle.history.specs.Papers.{shut_most}
use Rattle.history.proofs.Reading.{bargain_in, Reads, reads_post, at_offer, either_way}
use Rattle.soundness.specs.Played.{answer_to}
use Rattle.history.specs.Run.{from}
use Rattle.history.specs.Before.{base}
use Rattle.history.proofs.Before.{reads_before}
use Rattle.history.proofs.Demand.{fresh, none_before, holds}

-- ── The terms of a settlement ─────────────────────────────────────
-- an amend or a counter
abbrev pub Round : Deed → Type 0
Round (creates a i t) = ⊥
Round (amends t) = Unit {0}
Round (counters t) = Unit {0}
Round accepts = ⊥

-- what was done on the offer up to the deed that settles it: its terms are the lender's latest; by a round, the originator's latest too
pub record Bound (l : List Deed) (d : Deed) (s : Settlement) : Type 0 where
  pub lender_put : s.terms ≡ terms_said l
  pub originator_put : Round d → counter_of l ≡ here s.terms

agreed : (d : Deed) (l : List Deed) → settles (terms_said l) (counter_of l) d ≡ true → Round d → counter_of (d ∷ l) ≡ here (terms_said (d ∷ l))
unfolding settles terms_said counter_of
agreed (creates a i t) l e k = absurd k
agreed (amends t) l e k = matches_is t (counter_of l) e
agreed (counters t) l e k = ap here (sym (same_terms_is (terms_said l) t e))
agreed accepts l e k = absurd k

pub bound : (r : Said) (l : List Deed) (d : Deed) (s : Settlement) → settled_by r l d ≡ here s → Bound (d ∷ l) d s
unfolding settled_by pick
bound r l d s e = go (settles (terms_said l) (counter_of l) d) refl e
  where
    go : (g : Bool) → settles (terms_said l) (counter_of l) d ≡ g → pick g (here (settlement_of r (d ∷ l))) absent ≡ here s → Bound (d ∷ l) d s
    go true h e =
        let q : settlement_of r (d ∷ l) ≡ s = cc in
        let x : terms_said (d ∷ l) ≡ s.terms = ap (λ (z : Settlement). z.terms) q in
        record { lender_put = sym x; originator_put = λ k. agreed d l h k ∙ ap here x }
    go false h e = let z : ◌≡◌ {A = ℕ} 0 1 = cc in absurd (omega arith)

-- ── Who put them down ─────────────────────────────────────────────
-- of every offer the book and the history know the same lender, invoice, terms and latest counter
pub book_knows : (e : ℕ) → listed e ≡ true → (cs : List Command) (o : ℕ) → bargain_of (find (from (fresh_model e) cs).model.offers o) ≡ bargain_in (deeds_on o (read (from (fresh_model e) cs).history).deeds)
book_knows e l cs o = let H = holds e l cs in H.agrees.bargains.shown o ∙ H.reads.bargains o

module _ (edition : ℕ) (l : listed edition ≡ true) (cs : List Command) (now a o : ℕ) (t : Terms) (n : ℕ) where
  abbrev after : Model
  after = (from (fresh_model edition) cs).model

  abbrev told-so-far : Said
  told-so-far = read (from (fresh_model edition) cs).history

  pub amended_by_lender : answer_to after (AmendOffer now a o t n) ≡ 0 → lender_said (deeds_on o told-so-far.deeds) ≡ a
  unfolding shape_of ruled
  amended_by_lender e =
      let p : Passes (commanded after (AmendOffer now a o t n)).checks = all_pass_lem (commanded after (AmendOffer now a o t n)).checks e in
      sym (ap (λ (z : Bargain). z.lender) (book_knows edition l cs o)) ∙ eqb-true (offer_in after o).row.offer.lender a (not-false (eqb (offer_in after o).row.offer.lender a) (search))

  pub countered_by_originator : answer_to after (CounterOffer now a o t n) ≡ 0 → row 0 (find told-so-far.originators (invoice_of (deeds_on o told-so-far.deeds))) ≡ a
  unfolding shape_of ruled
  countered_by_originator e =
      let H = holds edition l cs in
      let p : Passes (commanded after (CounterOffer now a o t n)).checks = all_pass_lem (commanded after (CounterOffer now a o t n)).checks e in
      let i : ℕ = (offer_in after o).row.offer.invoice in
      ap (λ (z : Bargain). row 0 (find told-so-far.originators z.invoice)) (sym (book_knows edition l cs o))
      ∙ sym (H.agrees.papers.originators i ∙ H.reads.originators i)
      ∙ eqb-true (paper_of after o).row.originator a (not-false (eqb (paper_of after o).row.originator a) (search))

-- ── No invoice is settled twice ───────────────────────────────────
unfoldable pub times : ℕ → List Settlement → ℕ
times i [] = 0
times i (s ∷ l) = times i l + hit s.invoice i 1

sales_post : {b l : Ledger} {r : Said} → Reads b l r → ((i : ℕ) → l.papers.sales i ≡ times i r.settlements) → (e : Entry) (i : ℕ) → (post e l).papers.sales i ≡ times i (add e r).settlements
unfolding post add times grow
sales_post R h (opens a) i = h i
sales_post R h (deposits a x) i = h i
sales_post R h (pays a x) i = h i
sales_post R h (registers a k) i = h i
sales_post {b} {l} {r} R h (deals o d) i = either_way R o d (λ k s. k.papers.sales i ≡ times i (grow s r.settlements))
    (λ e. ap (λ z. z + hit ((noted o d l).bargains o).invoice i 1) (h i) ∙ ap (λ (z : Bargain). times i r.settlements + hit z.invoice i 1) (at_offer R o d)) (h i)
sales_post R h nothing i = h i

all_read : (e : ℕ) (h : List Command) → Reads (base (fresh_model e)) (ledger (fresh e) h) (read h)
unfolding ledger read_after
all_read e [] = subst (λ (z : Said). Reads (base (fresh_model e)) (fresh e) z) (none_before e) (reads_before (fresh_model e))
all_read e (c ∷ h) = reads_post (all_read e h) (entry_of c)

all_sold : (e : ℕ) (h : List Command) (i : ℕ) → (ledger (fresh e) h).papers.sales i ≡ times i (read h).settlements
unfolding ledger read_after times shut pick find
all_sold e [] i = refl
all_sold e (c ∷ h) i = sales_post (all_read e h) (all_sold e h) (entry_of c) i

pub never_twice : (e : ℕ) → listed e ≡ true → (cs : List Command) (i : ℕ) → times i (read (from (fresh_model e) cs).history).settlements ≤ 1
never_twice e l cs i = omega (arith, all_sold e (from (fresh_model e) cs).history i, (holds e l cs).agrees.papers.once i, shut_most (find (from (fresh_model e) cs).model.invoices i))
