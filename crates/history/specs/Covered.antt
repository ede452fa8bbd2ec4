-- Document 02 b: from a fresh book of an edition that holds the amount to the invoice's, every offer's amount is at most its invoice's, after any commands.
use Rattle.std.specs.Prelude.{ℕ, ◌≡◌, Bool, ◌&&◌, List, [], ◌∷◌}
use Rattle.std.proofs.Math.Path.{refl, ap}
use Rattle.std.proofs.Common.{sym, subst, ◌∙◌, arith}
use Rattle.std.proofs.Math.Bool.{true, false, not}
use Rattle.std.proofs.Math.Dec.{eqb}
use borrow.Author.Tests.{eqb-true, not-false}
use Rattle.refusal.specs.Choice.{pick}
use Rattle.refusal.specs.ChoiceLaws.{pick_on, pick_off}
use Rattle.refusal.specs.Refusal.{first}
use Rattle.refusal.specs.Rule.{after}
use Rattle.refusal.specs.RuleLaws.{passed, both_pass}
use Rattle.edition.specs.Edition.{listed, holds_amount}
use Rattle.table.specs.Tables.{Found, absent, here, Table, find, adjust, insert, fmap}
use Rattle.table.proofs.TableLaws.{find_adjust, find_insert}
use Rattle.table.specs.Sound.{All}
use Rattle.table.proofs.Sound.{all_map, all_found, all_insert}
use Rattle.terms.specs.declared.Terms.{Terms}
use Rattle.invoice.specs.Invoice.{covers, invoice_of, financed, cancel_of}
use Rattle.invoice.specs.Seen.{seen_invoice}
use Rattle.invoice.specs.declared.Invoice.{Invoice}
use Rattle.offer.specs.Offer.{new_deal, settled_deal, amended_deal, countered_deal}
use Rattle.offer.specs.Seen.{seen_deal}
use Rattle.offer.specs.Rules.{create_checks, accept_checks, agreement_checks}
use Rattle.offer.specs.declared.Deal.{Deal}
use Rattle.account.specs.Rules.{reoffer_of}
use Rattle.command.specs.Shape.{OnOffer, withdraws, rejects, closes, schedules, marks, repaid, Shape, opens, account, registers, cancels, creates, offer, accepts, amends, counters, totals, settings, shape_of}
use Rattle.command.specs.declared.Command.{Command}
use Rattle.rules.specs.Model.{Model, fresh_model, account_in, invoice_in, offer_in, paper_of}
use Rattle.rules.specs.Rooms.{unseen_invoice}
use Rattle.rules.specs.Rules.{lender_of, originator_of, terms_in, gate_checks, offer_rule, settling, concluding, agreeing, amends_in, amended_in, counters_in, countered_in, ruled, commanded}
use Rattle.book.specs.Stored.{model_of, stored}
use Rattle.book.specs.Shelving.{model_stored}
use Rattle.soundness.specs.Sound.{ModelSound, fresh_model_lem, put_sound}
use Rattle.soundness.specs.Staying.{edition_stays}
use Rattle.soundness.specs.Played.{obeyed, played, called}
use Rattle.soundness.specs.Books.{played_sound}
use Rattle.soundness.specs.Calls.{called_played}
use Rattle.history.specs.Passed.{invoice_there, offer_there}

-- an offer's invoice is there, and covers its amount
pub record Within (t : Table Invoice) (d : Deal) : Type 0 where
  pub paper : Invoice
  pub there : find t d.offer.invoice ≡ here paper
  pub covered : covers paper d.offer.terms ≡ true

abbrev pub Covered : Model → Type 0
Covered m = All (Within m.invoices) m.offers

-- ── Invoices ──
-- one put anew with its amount
module _ (t : Table Invoice) (i : ℕ) (x : Invoice) (same : x.amount ≡ (seen_invoice (find t i)).row.amount) where
  paper_put : (d : Deal) → Within t d → Within (adjust t i (λ old. x)) d
  unfolding fmap
  paper_put d w = go (eqb i d.offer.invoice) refl
    where
      go : (b : Bool) → eqb i d.offer.invoice ≡ b → Within (adjust t i (λ old. x)) d
      go true e = record {
        paper = x;
        there = find_adjust t i d.offer.invoice (λ old. x) ∙ rw (e, w.there);
        covered =
            let j = eqb-true i d.offer.invoice e in
            let r = same ∙ ap (λ (n : ℕ). (seen_invoice (find t n)).row.amount) j ∙ ap (λ (f : Found Invoice). (seen_invoice f).row.amount) w.there in
            rw r w.covered;
      }
      go false e = record { paper = w.paper; there = find_adjust t i d.offer.invoice (λ old. x) ∙ rw e w.there; covered = w.covered }

-- one let in
paper_in : (t : Table Invoice) (i : ℕ) (x : Invoice) → find t i ≡ absent → (d : Deal) → Within t d → Within (insert t i x) d
paper_in t i x n d w = go (eqb i d.offer.invoice) refl
  where
    go : (b : Bool) → eqb i d.offer.invoice ≡ b → Within (insert t i x) d
    go true e =
        let j = eqb-true i d.offer.invoice e in
        let z : absent ≡ here w.paper = sym n ∙ ap (find t) j ∙ w.there in
        let y : ◌≡◌ {A = ℕ} 0 1 = cc in
        absurd (omega arith)
    go false e = record { paper = w.paper; there = find_insert t i d.offer.invoice x n ∙ rw e w.there; covered = w.covered }

-- ── Offers ──
-- one put anew, within as the row that was there is
deal_put : (p : Table Invoice) (t : Table Deal) (o : ℕ) (x : Deal) → All (Within p) t → (Within p (seen_deal (find t o)).row → Within p x) → All (Within p) (adjust t o (λ old. x))
deal_put p t o x = put_sound (Within p) (λ f. (seen_deal f).row) (λ r. refl) t o x

like : {p : Table Invoice} {d x : Deal} → x.offer.invoice ≡ d.offer.invoice → x.offer.terms ≡ d.offer.terms → Within p d → Within p x
like i t w = record { paper = w.paper; there = rw i w.there; covered = rw t w.covered }

-- ── The rule of each command ──
settled : (m : Model) → Covered m → (now o : ℕ) → Covered (settling now o m).done
unfolding settling settled_deal
settled m c now o =
    let i = (offer_in m o).row.offer.invoice in
    let x = financed (paper_of m o).row in
    let d = settled_deal now (offer_in m o).row in
    all_map (Within m.invoices) (Within (adjust m.invoices i (λ old. x))) (adjust m.offers o (λ old. d)) (paper_put m.invoices i x refl)
    (deal_put m.invoices m.offers o d c (like refl refl))

agreed_in : (m : Model) → Covered m → (g : Bool) (now o : ℕ) → Covered (agreeing g now o m).done
unfolding agreeing concluding pick
agreed_in m c true now o = settled m c now o
agreed_in m c false now o = c

module _ (m : Model) (c : Covered m) where
  on_offer_lem : (o : ℕ) (u : OnOffer) → All (Within m.invoices) (adjust m.offers o (λ old. (offer_rule m o u).done))
  unfolding offer_rule
  on_offer_lem o (withdraws a) = deal_put m.invoices m.offers o _ c (like refl refl)
  on_offer_lem o (rejects a) = deal_put m.invoices m.offers o _ c (like refl refl)
  on_offer_lem o (closes now a) = deal_put m.invoices m.offers o _ c (like refl refl)
  on_offer_lem o (schedules now a n q d k) = deal_put m.invoices m.offers o _ c (like refl refl)
  on_offer_lem o (marks a q) = deal_put m.invoices m.offers o _ c (like refl refl)
  on_offer_lem o (repaid a x) = deal_put m.invoices m.offers o _ c (like refl refl)

  -- an invoice that was looked up and covers the amount
  looked : (i : ℕ) (t : Terms) {d : Deal} → not (invoice_in m i).here ≡ false → not (covers (invoice_in m i).row t) ≡ false → d.offer.invoice ≡ i → d.offer.terms ≡ t → Within m.invoices d
  looked i t h k e q = record {
    paper = (invoice_in m i).row;
    there = ap (find m.invoices) e ∙ invoice_there (find m.invoices i) h;
    covered = rw q (not-false (covers (invoice_in m i).row t) k);
  }

  created : (a o i : ℕ) (t : Terms) (x : ℕ) → first (ruled m (creates a o i t x)).checks ≡ 0 → Covered (ruled m (creates a o i t x)).done
  unfolding ruled
  created a o i t x e =
      let p = (both_pass (create_checks a (account_in m a).row t (invoice_in m i) (offer_in m o).here _) _ e).0 in
      let q = passed _ _ _ (passed _ _ _ (passed _ _ _ p).1).1 in
      let r = passed _ _ _ (passed _ _ _ (passed _ _ _ q.1).1).1 in
      all_insert (Within m.invoices) m.offers o (new_deal a i t x) c (looked i t q.0 r.0 refl refl)

  module _ (held : holds_amount m.settings.edition ≡ true) (now a o : ℕ) (t : Terms) (n : ℕ) where
    amended : first (ruled m (amends now a o t n)).checks ≡ 0 → Covered (amended_in m now a o t)
    unfolding ruled amended_deal
    amended e =
        let s = (both_pass (amends_in m now a o t n) (reoffer_of (account_in m a).row (terms_in m o) t).checks (both_pass _ _ e).0).0 in
        let q = passed _ _ _ (passed _ _ _ (passed _ _ _ (passed _ _ _ s).1).1).1 in
        let r = passed _ _ _ q.1 in
        let w = passed _ _ _ r.1 in
        deal_put m.invoices m.offers o _ c
        (λ z. looked (offer_in m o).row.offer.invoice t (ap (λ (b : Bool). b && not (paper_of m o).here) (sym held) ∙ r.0) (ap (λ (b : Bool). b && not (covers (paper_of m o).row t)) (sym held) ∙ w.0) refl refl)

  covers_ruled : holds_amount m.settings.edition ≡ true → (s : Shape) → first (ruled m s).checks ≡ 0 → Covered (ruled m s).done
  unfolding ruled countered_deal
  covers_ruled held (opens a) e = c
  covers_ruled held (account a u) e = c
  covers_ruled held (registers a i x) e =
      let n = unseen_invoice (find m.invoices i) (passed _ _ _ (passed _ _ _ e).1).0 in
      all_map (Within m.invoices) (Within (insert m.invoices i (invoice_of a x))) m.offers (paper_in m.invoices i (invoice_of a x) n) c
  covers_ruled held (cancels a i) e =
      let x = (cancel_of (invoice_in m i) a).done in
      all_map (Within m.invoices) (Within (adjust m.invoices i (λ old. x))) m.offers (paper_put m.invoices i x refl) c
  covers_ruled held (creates a o i t x) e = created a o i t x e
  covers_ruled held (offer o u) e = on_offer_lem o u
  covers_ruled held (accepts now a o) e = settled m c now o
  covers_ruled held (amends now a o t n) e = agreed_in (amended_in m now a o t) (amended held now a o t n e) _ now o
  covers_ruled held (counters now a o t n) e = agreed_in (countered_in m now o t) (deal_put m.invoices m.offers o _ c (like refl refl)) _ now o
  covers_ruled held (totals a x y) e = c
  covers_ruled held (settings u) e = c

  covers_after : holds_amount m.settings.edition ≡ true → (k : Command) → Covered (after m (commanded m k))
  unfolding after
  covers_after held k = go (eqb (first (commanded m k).checks) 0) refl
    where
      go : (b : Bool) → eqb (first (commanded m k).checks) 0 ≡ b → Covered (pick (eqb (first (commanded m k).checks) 0) (commanded m k).done m)
      go true q = rw (pick_on (commanded m k).done m q) (covers_ruled held (shape_of k) (both_pass (gate_checks m (shape_of k)) (ruled m (shape_of k)).checks (eqb-true _ _ q)).1)
      go false q = rw (pick_off (commanded m k).done m q) c

-- ── Any commands from a fresh book ──
covers_played : (m : Model) → holds_amount m.settings.edition ≡ true → Covered m → (cs : List Command) → Covered (played m cs)
unfolding played
covers_played m held c [] = c
covers_played m held c (k ∷ cs) = covers_played (obeyed m k) (ap holds_amount (edition_stays m k) ∙ held) (covers_after m c held k) cs

-- in every edition that holds the amount
pub never_above : (e : ℕ) → holds_amount e ≡ true → (cs : List Command) → Covered (played (fresh_model e) cs)
never_above e held cs = covers_played (fresh_model e) held tt cs

-- of the code: a fresh book, then any commands by `Book::apply`
pub calls_never_above : (e : ℕ) → listed e ≡ true → holds_amount e ≡ true → (cs : List Command) → Covered (model_of (called (stored (fresh_model e)) cs))
calls_never_above e l held cs =
    let s = fresh_model_lem e l in
    subst (λ (b : Model). Covered b) (sym (ap (λ z. model_of z) (called_played s cs) ∙ model_stored (played_sound s cs).fits)) (never_above e held cs)

-- so of an offer that is there
pub amount_within : (m : Model) → Covered m → (o : ℕ) → not (offer_in m o).here ≡ false → ((paper_of m o).here ≡ true) × (covers (paper_of m o).row (terms_in m o) ≡ true)
amount_within m c o h =
    let w = all_found (Within m.invoices) m.offers o (offer_in m o).row c (offer_there (find m.offers o) h) in
    (ap (λ (f : Found Invoice). (seen_invoice f).here) w.there, ap (λ (f : Found Invoice). covers (seen_invoice f).row (terms_in m o)) w.there ∙ w.covered)
