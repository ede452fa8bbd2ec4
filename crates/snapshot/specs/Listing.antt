-- Rows written one after the other, as the arrays of a table hold them. Over any row type and any size.
use Rattle.std.specs.Prelude.{◌≡◌, Bool, length, take}
use Rattle.std.proofs.Math.Path.{refl, ap}
use Rattle.std.proofs.Common.{◌∙◌, arith, add-one, take-suc, length-take-le}
use Rattle.std.proofs.Math.Bool.{true}
use mathlib.Core.List.{List, [], ◌∷◌, ◌++◌}
use Prim.Native.Nat.{ℕ, zero, suc, ◌+◌, ◌≤◌, ◌<◌}
use Rattle.std.proofs.Math.ListN.{get_or}
use borrow.Author.Tests.{leb-true}
use Rattle.money.specs.Facts.{both}
use Rattle.table.specs.All.{all-at}
use Rattle.table.specs.Columns.{level, join_at, length_join}
use Rattle.table.specs.Join.{Level}
use Rattle.table.specs.Shelf.{table_of}
use Rattle.table.proofs.ShelfBack.{length_table}
use Rattle.table.specs.Test.{ids_test, row_test, rows_test}
use Rattle.table.proofs.TestLaws.{used}
use Rattle.sheet.specs.declared.Pen.{Pen}
use Rattle.negotiation.specs.declared.Negotiation.{Negotiation}
use Rattle.terms.specs.declared.Schedule.{Schedule}
use Rattle.offer.specs.declared.Offer.{Offer}
use Rattle.offer.specs.declared.Deal.{Deal}
use Rattle.offer.specs.Offer.{no_deal, deal_sound, deal_zero}
use Rattle.shelves.specs.declared.Offers.{Offers}
use Rattle.shelves.specs.Offers.{deal_of, rows_of, deals_test}
use Rattle.codec.specs.Codec.{Codec, rows}
use Rattle.codec.specs.Columns.{whole}
use Rattle.codec.specs.Puts.{Puts, Listing, list_start, list_turn, list_done}

-- ── A list ────────────────────────────────────────────────────────
module _ {E : Type 0} (a : Codec E) (ink : Bool) (xs : List E) (l : List ℕ) (p : Pen) where
  pub taken_start : Listing a ink (take 0 xs) l p l p
  taken_start = list_start a ink l p

  pub taken_turn : {i : ℕ} {m n : List ℕ} {q r : Pen} (d : E) → i < length xs → Listing a ink (take i xs) l p m q → Puts ink a (get_or xs i d) m q n r → Listing a ink (take (i + 1) xs) l p n r
  taken_turn {i} {m} {n} {q} {r} d h g w = rw (add-one, take-suc xs i d) (list_turn a ink l p g w)

pub taken_done : {E : Type 0} {a : Codec E} {ink : Bool} (xs : List E) {l m o : List ℕ} {p q r : Pen} {n i : ℕ} (tag most : ℕ) → i ≡ n → n ≤ length xs → n ≤ most → Puts ink (whole tag) n l p m q → Listing a ink (take i xs) m q o r → Puts ink (rows tag most a) (take n xs) l p o r
taken_done xs {n = n} {i = i} tag most e h k w g = list_done tag most (length-take-le n xs h) k w (rw e at g)

-- ── A table ───────────────────────────────────────────────────────
module _ {A : Type 0} where
  table_none : (ids : List ℕ) (rs : List A) → table_of ids rs 0 ≡ []
  unfolding table_of
  table_none [] rs = refl
  table_none (i ∷ ids) [] = refl
  table_none (i ∷ ids) (r ∷ rs) = refl

  table_last : (ids : List ℕ) (rs : List A) (i : ℕ) (d : A) → i < length ids → i < length rs → table_of ids rs (suc i) ≡ table_of ids rs i ++ ((get_or ids i 0, get_or rs i d) ∷ [])
  unfolding table_of
  table_last [] rs i d h k = absurd (omega arith)
  table_last (j ∷ ids) [] i d h k = absurd (omega arith)
  table_last (j ∷ ids) (r ∷ rs) zero d h k = ap (λ t. (j, r) ∷ t) (table_none ids rs)
  table_last (j ∷ ids) (r ∷ rs) (suc i) d h k = ap (λ t. (j, r) ∷ t) (table_last ids rs i d (omega arith) (omega arith))

module _ {A : Type 0} (a : Codec (ℕ × A)) (ink : Bool) (ids : List ℕ) (rs : List A) (l : List ℕ) (p : Pen) where
  pub table_begun : Listing a ink (table_of ids rs 0) l p l p
  table_begun = rw (table_none ids rs) (list_start a ink l p)

  pub table_more : {i : ℕ} {m n : List ℕ} {q r : Pen} (d : A) → i < length ids → i < length rs → Listing a ink (table_of ids rs i) l p m q → Puts ink a (get_or ids i 0, get_or rs i d) m q n r → Listing a ink (table_of ids rs (i + 1)) l p n r
  table_more {i} {m} {n} {q} {r} d h k g w = rw (add-one, table_last ids rs i d h k) (list_turn a ink l p g w)

  -- the same of a row that is known otherwise
  pub table_made : {i : ℕ} {m n : List ℕ} {q r : Pen} {x : A} (d : A) → i < length ids → i < length rs → get_or rs i d ≡ x → Listing a ink (table_of ids rs i) l p m q → Puts ink a (get_or ids i 0, x) m q n r → Listing a ink (table_of ids rs (i + 1)) l p n r
  table_made {i} {m} {n} {q} {r} {x} d h k e g w = table_more d h k g (rw (← e) at w)

pub table_whole : {A : Type 0} {a : Codec (ℕ × A)} {ink : Bool} (ids : List ℕ) (rs : List A) {l m o : List ℕ} {p q r : Pen} {n i : ℕ} (tag most : ℕ) → i ≡ n → n ≤ length ids → n ≤ length rs → n ≤ most → Puts ink (whole tag) n l p m q → Listing a ink (table_of ids rs i) m q o r → Puts ink (rows tag most a) (table_of ids rs n) l p o r
table_whole ids rs {n = n} tag most e h k z w g = list_done tag most (length_table ids rs n h k) z w (rw e at g)

-- ── Offers, whose rows are kept in three arrays ───────────────────
module _ (n : ℕ) (a : Offers) (e : deals_test n a ≡ true) where
  pub few_deals : a.count ≤ 64
  unfolding deals_test
  few_deals = leb-true a.count 64 (both _ _ (both _ _ e).0).0

  module _ (x : length a.rows ≡ 64) (y : length a.negotiations ≡ 64) (z : length a.schedules ≡ 64) where
    even : Level a.rows a.negotiations a.schedules
    even = level a.rows a.negotiations a.schedules x y z

    pub deals_long : length (rows_of a) ≡ 64
    deals_long = length_join deal_of a.rows a.negotiations a.schedules even ∙ x

    module _ (i : ℕ) (h : i < a.count) (o : Offer) (t : Negotiation) (s : Schedule) where
      pub deal_at_lem : (d : Deal) → get_or (rows_of a) i d ≡ deal_of (get_or a.rows i o) (get_or a.negotiations i t) (get_or a.schedules i s)
      deal_at_lem d = join_at deal_of a.rows a.negotiations a.schedules even i (omega (arith, x, few_deals, h)) d o t s

      pub deal_sound_lem : deal_sound n (deal_of (get_or a.rows i o) (get_or a.negotiations i t) (get_or a.schedules i s)) ≡ true
      unfolding deals_test
      deal_sound_lem =
          let r : rows_test (deal_sound n) deal_zero no_deal 64 a.count (rows_of a) ≡ true = (both (ids_test 64 a.count a.ids) (rows_test (deal_sound n) deal_zero no_deal 64 a.count (rows_of a)) e).1 in
          let x = get_or (rows_of a) i no_deal in
          rw (← deal_at_lem no_deal) (used a.count i (deal_sound n x) (deal_zero x) (all-at (row_test (deal_sound n) deal_zero no_deal a.count (rows_of a)) 64 r i (omega (arith, few_deals, h))) h)
