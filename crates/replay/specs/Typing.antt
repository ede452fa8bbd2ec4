-- What its types say of a book that the code is given: its arrays are as long as they say, and its ids have 64 bits. Assumes nothing.
use Rattle.std.specs.Prelude.{◌≡◌, true, List, [], ◌∷◌, ℕ, zero, suc, ◌<◌, length, get_or}
use Rattle.std.proofs.Common.{arith}
use mir.Val.{Val}
use denote.RattleType.{RattleType}
use denote.Builtin.{u64}
use denote.Array.{each}
use denote.Laws.{Is}
use denote.Shadow.{shadow}
use denote.Struct.Declared.{row}
use Rattle.table.specs.Tables.{keys}
use Rattle.table.specs.Shelf.{table_of}
use Rattle.negotiation.specs.Rounds.{round_slots, no_negotiation}
use Rattle.negotiation.specs.Whole.{Whole}
use Rattle.negotiation.specs.declared.Negotiation.{Negotiation}
use Rattle.negotiation.specs.contracts.Negotiation as negotiation
use Rattle.sheet.specs.Size.{Small}
use Rattle.book.specs.declared.Book.{Book}
use Rattle.book.specs.Stored.{model_of, book_test}
use Rattle.book.specs.contracts.Book as book
use Rattle.soundness.specs.Books.{Typed, model_sound}
use Rattle.replay.specs.Bounded.{Bounded}

-- what the type of an element says of one, it says of each
each-is : (R : RattleType) (P : R.Denot → Type 0) → ((a : R.Denot) (v : Val) → shadow (R.own_val a (v ∷ [])) → P a)
    → (l : List R.Denot) (us : List Val) → shadow (each R.Denot R.own_val l us) → (d : R.Denot) (k : ℕ) → k < length l → P (get_or l k d)
each-is R P q [] us h d k i = absurd (omega arith)
each-is R P q (a ∷ l) [] h d k i = absurd h
each-is R P q (a ∷ l) (u ∷ us) h d zero i = q a u h.0
each-is R P q (a ∷ l) (u ∷ us) h d (suc k) i = each-is R P q l us h.1 d k (omega arith)

-- a negotiation's says how many rounds it has room for
whole : (n : Negotiation) (v : Val) → shadow ((negotiation.the_row).own_val n (v ∷ [])) → Whole round_slots n
whole n v h = record { long = h.1.1.0.1.0.1 }

-- and an id's, how large it is
small : (l : List ℕ) → ((k : ℕ) → k < length l → get_or l k 0 < 18446744073709551616) → Small l
small [] h = tt
small (n ∷ l) h = (h 0 (omega arith), small l (λ k i. h (suc k) (omega arith)))

small_keys : {A : Type 0} (ids : List ℕ) (rows : List A) (n : ℕ) → Small ids → Small (keys (table_of ids rows n))
unfolding table_of keys
small_keys [] rows n s = tt
small_keys (i ∷ ids) [] n s = tt
small_keys (i ∷ ids) (r ∷ rows) zero s = tt
small_keys (i ∷ ids) (r ∷ rows) (suc n) s = (s.0, small_keys ids rows n s.1)

module _ (b : Book) (vs : List Val) (g : Is (row book.the_type) b vs) where
  pub typed : Typed b
  typed =
      let accounts = g.1.1.0 in
      let invoices = g.1.1.1.0 in
      let offers = g.1.1.1.1.0 in
      let negotiations = offers.1.1.1.1.0 in
      let long : length b.offers.negotiations ≡ 64 = negotiations.1.0.1 in
      record {
        accounts = record { ids_long = accounts.1.1.0.1.0.1; rows_long = accounts.1.1.1.0.1.0.1 };
        invoices = record { ids_long = invoices.1.1.0.1.0.1; rows_long = invoices.1.1.1.0.1.0.1 };
        offers = record {
          ids_long = offers.1.1.0.1.0.1;
          rows_long = offers.1.1.1.0.1.0.1;
          negotiations_long = long;
          schedules_long = offers.1.1.1.1.1.0.1.0.1;
          whole = λ k h. each-is negotiation.the_row (Whole round_slots) whole b.offers.negotiations negotiations.0 negotiations.1.1 no_negotiation k (omega arith);
        };
      }

  -- so a sound one bounds its listings
  pub bounded : book_test b ≡ true → Bounded (model_of b)
  bounded e =
      let ids = g.1.1.0.1.1.0 in
      let below = each-is u64 (λ n. n < 18446744073709551616) (λ n v h. h.1) b.accounts.ids ids.0 ids.1.1 0 in
      record { sound = model_sound b typed e; low = record { ids = small_keys b.accounts.ids b.accounts.rows b.accounts.count (small b.accounts.ids below) } }
