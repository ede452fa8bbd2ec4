-- What the walks over the rows go by. Assumes nothing.
use Prim.Native.Nat.{ℕ, zero, suc, ◌≤◌, ◌<◌}
use Rattle.std.proofs.Common.{arith, sym, ap, ◌∙◌, ltb-true, ltb-false}
use Rattle.std.specs.Prelude.{◌≡◌, Bool, true, false, ◌&&◌, ◌||◌, length, get_or, eqb, ltb, min}
use Rattle.std.proofs.Math.Path.{refl}
use mathlib.Core.List.{List, [], ◌∷◌}
use Rattle.refusal.specs.Choice.{pick}
use Rattle.money.specs.Range.{in_amount, magnitude_of}
use Rattle.money.specs.Facts.{amount_le, magnitude_is}
use Rattle.table.specs.Shelf.{table_of}
use Rattle.table.proofs.ShelfBack.{length_table}
use Rattle.offer.specs.Offer.{no_offer}
use Rattle.offer.specs.declared.Offer.{Offer}
use Rattle.lists.specs.declared.OfferRows.{OfferRows}
use Rattle.lists.specs.declared.Wanted.{Wanted}
use Rattle.lists.specs.Pick.{pick_short}
use Rattle.lists.specs.Wanted.{wants}
use Rattle.lists.specs.Listing.{offers_of, InUse, taking, listing}
use Rattle.lists.specs.Active.{active_in, InRange}

-- ── Rows of a table in two arrays ─────────────────────────────────
module _ {A : Type 0} (d : A) where
  table_at : (ids : List ℕ) (rows : List A) (n i : ℕ) → i < length (table_of ids rows n) → get_or (table_of ids rows n) i (0, d) ≡ (get_or ids i 0, get_or rows i d)
  unfolding table_of
  table_at [] rows n i h = absurd (omega arith)
  table_at (x ∷ ids) [] n i h = absurd (omega arith)
  table_at (x ∷ ids) (r ∷ rows) zero i h = absurd (omega arith)
  table_at (x ∷ ids) (r ∷ rows) (suc n) zero h = refl
  table_at (x ∷ ids) (r ∷ rows) (suc n) (suc i) h = table_at ids rows n i (omega arith)

-- a count past the arrays uses all of them
length_all : {A : Type 0} (ids : List ℕ) (rows : List A) (n : ℕ) → length ids ≡ length rows → length rows ≤ n → length (table_of ids rows n) ≡ length rows
unfolding table_of
length_all [] [] n e h = refl
length_all [] (r ∷ rows) n e h = absurd (omega arith)
length_all (x ∷ ids) [] n e h = refl
length_all (x ∷ ids) (r ∷ rows) zero e h = absurd (omega arith)
length_all (x ∷ ids) (r ∷ rows) (suc n) e h = ap suc (length_all ids rows n (omega arith) (omega arith))

-- ── How many rows are in use ──────────────────────────────────────
module _ (t : OfferRows) (a : length t.ids ≡ 64) (b : length t.rows ≡ 64) where
  pub use_some : t.count < 64 → InUse t t.count
  use_some h = record { ids_long = a; rows_long = b; counted = sym (length_table t.ids t.rows t.count (omega arith) (omega arith)); few = omega arith; most = omega arith }

  pub use_all : 64 ≤ t.count → InUse t 64
  use_all h = record { ids_long = a; rows_long = b; counted = sym (length_all t.ids t.rows t.count (omega arith) (omega arith) ∙ b); few = omega arith; most = omega arith }

  pub use_least : {n : ℕ} → n ≡ min t.count 64 → InUse t n
  use_least {n} e = go (ltb t.count 64) refl
    where
      go : (s : Bool) → ltb t.count 64 ≡ s → InUse t n
      go true h = let g = ltb-true t.count 64 h in let z : n ≡ t.count = omega (arith, e, g) in rw z (use_some g)
      go false h = let g = ltb-false t.count 64 h in let z : n ≡ 64 = omega (arith, e, g) in rw z (use_all g)

-- an offer adds its amount at most, and that is at most 10^12
active_small : (lender : ℕ) (o : Offer) → in_amount o.terms.amount ≡ true → active_in lender o ≤ 1000000000000
unfolding active_in pick
active_small lender o h = go (eqb o.lender lender && (eqb o.status 1 || eqb o.status 3))
  where
    go : (b : Bool) → pick b (magnitude_of o.terms.amount) 0 ≤ 1000000000000
    go true = omega (arith, magnitude_is 1 1000000000000 o.terms.amount h, (amount_le o.terms.amount h).1)
    go false = omega arith

-- ── A row that the walk is at ─────────────────────────────────────
abbrev pub none : ℕ × Offer
none = (0, no_offer)

module _ {t : OfferRows} {n : ℕ} (u : InUse t n) where
  pub past : (i : ℕ) → n ≤ i → length (offers_of t) ≤ i
  past i h = omega (arith, u.counted)

  module _ (i : ℕ) (h : i < n) where
    pub inside : i < length (offers_of t)
    inside = omega (arith, u.counted)

    pub entry : get_or (offers_of t) i none ≡ (get_or t.ids i 0, get_or t.rows i no_offer)
    entry = table_at no_offer t.ids t.rows t.count i inside

    pub asked : (w : Wanted) (b s : Bool) → s ≡ wants w i (get_or t.rows i no_offer) → s ≡ b → taking w i (get_or (offers_of t) i none) ≡ b
    asked w b s e g = ap (λ (x : ℕ × Offer). wants w i x.1) entry ∙ sym e ∙ g

    pub active_at : (lender : ℕ) → active_in lender (get_or t.rows i no_offer) ≡ active_in lender (get_or (offers_of t) i none).1
    active_at lender = ap (λ (x : ℕ × Offer). active_in lender x.1) (sym entry)

    pub small_amount : InRange t → (lender : ℕ) → active_in lender (get_or t.rows i no_offer) ≤ 1000000000000
    small_amount a lender = active_small lender (get_or t.rows i no_offer) (a i (omega (arith, u.most)))

  pub few_listed : (w : Wanted) → length (listing w (offers_of t)) ≤ 64
  few_listed w = omega (arith, pick_short (taking w) 0 (offers_of t), u.counted, u.few)
