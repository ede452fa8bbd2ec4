-- The three tables at the spots of the rows that a command sees: what is read there, and what is written back
use Rattle.std.specs.Prelude.{ℕ, ◌<◌, ◌≡◌, Bool, true, false, cond, not, ◌&&◌, take, set, get_or}
use Rattle.std.proofs.Common.{arith, sym, ap, subst, ◌∙◌}
use Rattle.std.proofs.Math.Path.{refl}
use Rattle.std.proofs.lemmas.List.{set-get_or}
use Rattle.table.specs.Tables.{Found, here, find, has, Room}
use Rattle.table.specs.Find.{find_in}
use Rattle.table.specs.Named.{find_by, put_by}
use Rattle.table.specs.Spots.{spot_of, spot_by, at_spot}
use Rattle.table.proofs.SpotLaws.{spot_put, has_spot, on_spot, off_spot, written_new}
use Rattle.table.proofs.NamedLaws.{never, fine_by}
use Rattle.table.specs.Named.{Named}
use Rattle.std.specs.Prelude.{None, Some}
use Rattle.std.specs.Prelude.{Result}
use Rattle.std.specs.Prelude.{Ok, Err}
use Rattle.table.specs.declared.Spot.{Spot}
use Rattle.table.proofs.ShelfLaws.{absent_found}
use Rattle.account.specs.Account.{no_account}
use Rattle.account.specs.declared.Account.{Account}
use Rattle.invoice.specs.Invoice.{no_invoice}
use Rattle.invoice.specs.declared.Invoice.{Invoice}
use Rattle.negotiation.specs.declared.Negotiation.{Negotiation}
use Rattle.terms.specs.declared.Schedule.{Schedule}
use Rattle.offer.specs.declared.Offer.{Offer}
use Rattle.offer.specs.Offer.{no_deal}
use Rattle.offer.specs.Seen.{seen_deal}
use Rattle.offer.specs.declared.Deal.{Deal}
use Rattle.offer.specs.Seen.{SeenDeal}
use Rattle.shelves.specs.declared.Accounts.{Accounts}
use Rattle.shelves.specs.declared.Invoices.{Invoices}
use Rattle.shelves.specs.declared.Offers.{Offers}
use Rattle.shelves.specs.Accounts.{accounts_of, as_accounts, stored_accounts, AccountShelf}
use Rattle.shelves.specs.Invoices.{invoices_of, as_invoices, stored_invoices, InvoiceShelf}
use Rattle.shelves.specs.Offers.{deals_of, stored_deals, deal_of, DealShelf}
use Rattle.shelves.specs.Deals.{offers_of, deals_kept, deal_found, deal_put, deal_absent}
use Rattle.shelves.specs.Laws.{accounts_keeping}

-- ── Two accounts, second before first ─────────────────────────────
module _ {u : Accounts} (s : AccountShelf u) (a b : Named) {p q : Spot} (ep : p ≡ spot_by (take u.count u.ids) a) (eq : q ≡ spot_by (take u.count u.ids) b) (x y : Account) where
  abbrev once : Accounts
  once = as_accounts u.ids (set u.rows q.at (cond q.here y (get_or u.rows q.at no_account))) u.count

  once_is : once ≡ stored_accounts (put_by (accounts_of u) b y)
  once_is = spot_put s (omega arith) b eq as_accounts y

  once_good : AccountShelf once
  once_good = subst AccountShelf (sym once_is) (accounts_keeping.good (fine_by (accounts_keeping.fine u s) b y))

  accounts_put : as_accounts u.ids (set once.rows p.at (cond p.here x (get_or once.rows p.at no_account))) u.count ≡ stored_accounts (put_by (put_by (accounts_of u) b y) a x)
  accounts_put =
      spot_put {ids = u.ids} {rows = once.rows} {c = u.count} once_good (omega arith) a ep as_accounts x
      ∙ ap (λ t. stored_accounts (put_by t a x)) (ap accounts_of once_is ∙ accounts_keeping.back (fine_by (accounts_keeping.fine u s) b y))

  pub accounts_wrote : {m n : Account} → m ≡ cond q.here y (get_or u.rows q.at no_account) → n ≡ cond p.here x (get_or (set u.rows q.at m) p.at no_account)
      → as_accounts u.ids (set (set u.rows q.at m) p.at n) u.count ≡ stored_accounts (put_by (put_by (accounts_of u) b y) a x)
  accounts_wrote {m} f g =
      ap (λ z. as_accounts u.ids (set (set u.rows q.at m) p.at z) u.count) g
      ∙ ap (λ z. as_accounts u.ids (set (set u.rows q.at z) p.at (cond p.here x (get_or (set u.rows q.at z) p.at no_account))) u.count) f
      ∙ accounts_put

-- one put after the other
pub accounts_twice : {u v w : Accounts} → AccountShelf u → (a b : Named) (x y : Account) → v ≡ stored_accounts (put_by (accounts_of u) b y) → w ≡ stored_accounts (put_by (accounts_of v) a x) → w ≡ stored_accounts (put_by (put_by (accounts_of u) b y) a x)
accounts_twice {u} s a b x y e f = f ∙ ap (λ t. stored_accounts (put_by t a x)) (ap accounts_of e ∙ accounts_keeping.back (fine_by (accounts_keeping.fine u s) b y))

-- ── An invoice ────────────────────────────────────────────────────
module _ {u : Invoices} (s : InvoiceShelf u) (i : Named) {p : Spot} (e : p ≡ spot_by (take u.count u.ids) i) (x : Invoice) where
  pub invoice_wrote : {n : Invoice} → n ≡ cond p.here x (get_or u.rows p.at no_invoice) → as_invoices u.ids (set u.rows p.at n) u.count ≡ stored_invoices (put_by (invoices_of u) i x)
  invoice_wrote h = ap (λ z. as_invoices u.ids (set u.rows p.at z) u.count) h ∙ spot_put s (omega arith) i e as_invoices x

-- ── An offer ──────────────────────────────────────────────────────
abbrev pub seen_as : Bool → Deal → SeenDeal
seen_as b d = record { here = b; row = d }

module _ {u : Offers} (s : DealShelf u) (o : Offer) (n : Negotiation) (l : Schedule) where
  abbrev deal_at : ℕ → Deal
  deal_at k = deal_of (get_or u.rows k o) (get_or u.negotiations k n) (get_or u.schedules k l)

  found_at : (i : ℕ) (f : Result ℕ ℕ) → find_in (take u.count u.ids) i ≡ f → find (deals_of u) i ≡ at_spot (spot_of f).here (deal_at (spot_of f).at)
  unfolding at_spot
  found_at i (Ok k) q = deal_found s i k q o n l
  found_at i (Err k) q = absent_found s.shelf i k q

  found_by : (i : Named) → find_by (deals_of u) i ≡ at_spot (spot_by (take u.count u.ids) i).here (deal_at (spot_by (take u.count u.ids) i).at)
  unfolding at_spot
  found_by None = refl
  found_by (Some i) = found_at i (find_in (take u.count u.ids) i) refl

  abbrev wrote : ℕ → Deal → Offers
  wrote k d = offers_of u.ids u.count (set u.rows k d.offer) (set u.negotiations k d.negotiation) (set u.schedules k d.schedule)

  same : wrote 0 (deal_at 0) ≡ u
  same =
      ap (λ z. offers_of u.ids u.count z (set u.negotiations 0 (get_or u.negotiations 0 n)) (set u.schedules 0 (get_or u.schedules 0 l))) (set-get_or u.rows 0 o)
      ∙ ap (λ z. offers_of u.ids u.count u.rows z (set u.schedules 0 (get_or u.schedules 0 l))) (set-get_or u.negotiations 0 n)
      ∙ ap (λ z. offers_of u.ids u.count u.rows u.negotiations z) (set-get_or u.schedules 0 l)

  module _ (d : Deal) where
    put_at : (i : ℕ) (f : Result ℕ ℕ) → find_in (take u.count u.ids) i ≡ f → wrote (spot_of f).at (cond (spot_of f).here d (deal_at (spot_of f).at)) ≡ stored_deals (put_by (deals_of u) (Some i) d)
    put_at i (Ok k) q = deal_put s i k d q
    put_at i (Err k) q = same ∙ deal_absent s i k d q

    put_by_lem : (i : Named) → wrote (spot_by (take u.count u.ids) i).at (cond (spot_by (take u.count u.ids) i).here d (deal_at (spot_by (take u.count u.ids) i).at)) ≡ stored_deals (put_by (deals_of u) i d)
    put_by_lem None = same ∙ deals_kept s
    put_by_lem (Some i) = put_at i (find_in (take u.count u.ids) i) refl

  module _ (i : Named) {p : Spot} (e : p ≡ spot_by (take u.count u.ids) i) where
    pub deal_read_lem : find_by (deals_of u) i ≡ at_spot p.here (deal_at p.at)
    deal_read_lem = rw e (found_by i)

    -- what is seen of it, read only where it is there
    pub deal_here : {x : Deal} → p.here ≡ true → x ≡ deal_at p.at → seen_as p.here x ≡ seen_deal (find_by (deals_of u) i)
    deal_here h q = ap (λ z. seen_as p.here z) q ∙ ap (λ z. seen_as z (deal_at p.at)) h ∙ ap seen_deal (sym (deal_read_lem ∙ on_spot _ h))

    pub deal_away : {x : Deal} → p.here ≡ false → x ≡ no_deal → seen_as p.here x ≡ seen_deal (find_by (deals_of u) i)
    deal_away h q = ap (λ z. seen_as p.here z) q ∙ ap (λ z. seen_as z no_deal) h ∙ ap seen_deal (sym (deal_read_lem ∙ off_spot _ h))

    pub deal_wrote : (d : Deal) {w : Deal} → w ≡ cond p.here d (deal_at p.at) → wrote p.at w ≡ stored_deals (put_by (deals_of u) i d)
    deal_wrote d h = rw h (rw e (put_by_lem d i))

    -- written only where it is there
    pub deal_there : (d : Deal) → p.here ≡ true → wrote p.at d ≡ stored_deals (put_by (deals_of u) i d)
    deal_there d h = deal_wrote d (written_new p.here d (deal_at p.at) h)

    absent_at : (k : ℕ) (f : Result ℕ ℕ) → find_in (take u.count u.ids) k ≡ f → (spot_of f).here ≡ false → (d : Deal) → u ≡ stored_deals (put_by (deals_of u) (Some k) d)
    absent_at k (Ok j) q h d = never h
    absent_at k (Err j) q h d = deal_absent s k j d q

    absent_by : (k : Named) → (spot_by (take u.count u.ids) k).here ≡ false → (d : Deal) → u ≡ stored_deals (put_by (deals_of u) k d)
    absent_by None h d = deals_kept s
    absent_by (Some k) h d = absent_at k (find_in (take u.count u.ids) k) refl h d

    pub deal_gone : (d : Deal) → p.here ≡ false → u ≡ stored_deals (put_by (deals_of u) i d)
    deal_gone d h = absent_by i (ap (λ z. z.here) (sym e) ∙ h) d

-- ── A row that was not there, and is ──────────────────────────────
pub came_new : (was is : Bool) → not was && is ≡ true → was ≡ false
came_new true is e = sym e
came_new false is e = refl

-- whether a row is there, as its spot says
pub was_by : {A : Type 0} {f : Found A} (was : Bool) (x : A) → f ≡ at_spot was x → was ≡ has f
was_by was x q = sym (ap has q ∙ has_spot was x)

pub room_count : {u : Offers} {i : ℕ} → DealShelf u → Room 64 (deals_of u) i → u.count < 64
room_count s r = omega (arith, s.shelf.counted, r.small)
