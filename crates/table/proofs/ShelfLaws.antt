-- A shelf searched, and a row put anew or let in: what the arrays then hold is the table adjusted or with the row inserted
use Rattle.std.specs.Prelude.{◌≡◌, List, ℕ, ◌+◌, ◌≤◌, ◌<◌, length, get_or, set, take, leb}
use Rattle.std.proofs.Common.{sym, ap, ◌∙◌, arith}
use Rattle.std.specs.Prelude.{Ok, Err}
use Rattle.table.specs.Find.{find_in}
use Rattle.table.specs.Seek.{Stands, Place, found_stands, absent_place}
use Rattle.table.specs.Shift.{insert_at}
use Rattle.table.specs.Tables.{absent, here, find, adjust, insert, key, held, keys, full, Room}
use Rattle.table.proofs.TableLaws.{adjust_absent, length-keys, length_adjust, length-insert}
use Rattle.table.specs.Padded.{padded}
use Rattle.table.specs.Shelf.{table_of, Shelf, shelve}
use Rattle.table.proofs.ShelfBack.{take_keys, ids_adjust}
use Rattle.table.specs.ShelfPlaces.{find_there, put_there, find_gone, insert_there}

module _ {A : Type 0} {d : A} {n : ℕ} {ids : List ℕ} {rows : List A} {c : ℕ} (s : Shelf d n ids rows c) where
  searched : take c ids ≡ keys (table_of ids rows c)
  searched =
      let t = table_of ids rows c in
      let e : take (length t) (padded 0 key n t) ≡ keys t = take_keys n t (omega (arith, s.counted, s.few)) in
      ap (λ z. take z ids) (sym s.counted) ∙ ap (λ z. take (length t) z) (sym s.ids_kept) ∙ e

  fits : length (table_of ids rows c) ≤ n
  fits = omega (arith, s.counted, s.few)

  stands : (i k : ℕ) → find_in (take c ids) i ≡ Ok k → Stands (keys (table_of ids rows c)) i k
  stands i k e = found_stands _ i k s.rising (ap (λ z. find_in z i) (sym searched) ∙ e)

  place : (i k : ℕ) → find_in (take c ids) i ≡ Err k → Place (keys (table_of ids rows c)) i k
  place i k e = absent_place _ i k s.rising (ap (λ z. find_in z i) (sym searched) ∙ e)

  pub at_inside : (i k : ℕ) → find_in (take c ids) i ≡ Ok k → k < c
  at_inside i k e = omega (arith, (stands i k e).within, length-keys (table_of ids rows c), s.counted)

  pub at_below : (i k : ℕ) → find_in (take c ids) i ≡ Ok k → k < n
  at_below i k e = omega (arith, at_inside i k e, s.few)

  pub at_found : (i k : ℕ) → find_in (take c ids) i ≡ Ok k → find (table_of ids rows c) i ≡ here (get_or rows k d)
  at_found i k e = find_there d n (table_of ids rows c) i k fits (stands i k e) ∙ ap (λ z. here (get_or z k d)) s.rows-kept

  pub absent_found : (i k : ℕ) → find_in (take c ids) i ≡ Err k → find (table_of ids rows c) i ≡ absent
  absent_found i k e = find_gone (table_of ids rows c) i k s.rising (place i k e)

  -- a row put anew
  pub put_rows : (i k : ℕ) (f : A → A) → find_in (take c ids) i ≡ Ok k → set rows k (f (get_or rows k d)) ≡ padded d held n (adjust (table_of ids rows c) i f)
  put_rows i k f e = ap (λ z. set z k (f (get_or z k d))) (sym s.rows-kept) ∙ put_there d n (table_of ids rows c) i k f fits (stands i k e)

  pub put_ids : (i : ℕ) (f : A → A) → ids ≡ padded 0 key n (adjust (table_of ids rows c) i f)
  put_ids i f = sym (ids_adjust n (table_of ids rows c) i f ∙ s.ids_kept)

  pub put_count : (i : ℕ) (f : A → A) → c ≡ length (adjust (table_of ids rows c) i f)
  put_count i f = sym (length_adjust (table_of ids rows c) i f ∙ s.counted)

  -- a row let in
  pub in_ids : (i k : ℕ) (r : A) → c < n → find_in (take c ids) i ≡ Err k → insert_at k i ids ≡ padded 0 key n (insert (table_of ids rows c) i r)
  in_ids i k r h e =
      ap (λ z. insert_at k i z) (sym s.ids_kept) ∙ insert_there 0 key n (table_of ids rows c) i k r (omega (arith, s.counted)) (place i k e)

  pub in_rows : (i k : ℕ) (r : A) → c < n → find_in (take c ids) i ≡ Err k → insert_at k r rows ≡ padded d held n (insert (table_of ids rows c) i r)
  in_rows i k r h e =
      ap (λ z. insert_at k r z) (sym s.rows-kept) ∙ insert_there d held n (table_of ids rows c) i k r (omega (arith, s.counted)) (place i k e)

  pub in_count : (i : ℕ) (r : A) → c + 1 ≡ length (insert (table_of ids rows c) i r)
  in_count i r = omega (arith, length-insert (table_of ids rows c) i r, s.counted)

  -- whether there is room
  pub full_is : leb n c ≡ full n (table_of ids rows c)
  full_is = ap (leb n) (sym s.counted)

  pub room : (i : ℕ) → c < n → find (table_of ids rows c) i ≡ absent → Room n (table_of ids rows c) i
  room i h e = record { small = omega (arith, s.counted); new = e }

-- a struct of the three
module _ {A S : Type 0} (mk : List ℕ → List A → ℕ → S) {d : A} {n : ℕ} {ids : List ℕ} {rows : List A} {c : ℕ} (s : Shelf d n ids rows c) where
  same : {a a' : List ℕ} {b b' : List A} {k k' : ℕ} → a ≡ a' → b ≡ b' → k ≡ k' → mk a b k ≡ mk a' b' k'
  same {a} {a'} {b} {b'} {k} {k'} p q r = ap (λ z. mk z b k) p ∙ ap (λ z. mk a' z k) q ∙ ap (λ z. mk a' b' z) r

  -- read and stored back, it is what it was
  pub kept : mk ids rows c ≡ shelve mk d n (table_of ids rows c)
  kept = same (sym s.ids_kept) (sym s.rows-kept) (sym s.counted)

  pub put_kept : (i k : ℕ) (r : A) → find_in (take c ids) i ≡ Ok k → mk ids (set rows k r) c ≡ shelve mk d n (adjust (table_of ids rows c) i (λ old. r))
  put_kept i k r e = same (put_ids s i (λ old. r)) (put_rows s i k (λ old. r) e) (put_count s i (λ old. r))

  pub absent_kept : (i k : ℕ) (r : A) → find_in (take c ids) i ≡ Err k → mk ids rows c ≡ shelve mk d n (adjust (table_of ids rows c) i (λ old. r))
  absent_kept i k r e = kept ∙ ap (λ t. shelve mk d n t) (sym (adjust_absent (table_of ids rows c) i (λ old. r) (absent_found s i k e)))

  pub in_kept : (i k : ℕ) (r : A) → c < n → find_in (take c ids) i ≡ Err k → mk (insert_at k i ids) (insert_at k r rows) (c + 1) ≡ shelve mk d n (insert (table_of ids rows c) i r)
  in_kept i k r h e = same (in_ids s i k r h e) (in_rows s i k r h e) (in_count s i r)
