-- What a struct that keeps a table owes, and what follows for a row put anew or let in. Over any struct and any row type.
use Rattle.std.specs.Prelude.{◌≡◌, List, ℕ, ◌≤◌, length}
use Rattle.std.proofs.Common.{arith}
use Rattle.table.specs.Tables.{Table, adjust, insert, keys, Room}
use Rattle.table.proofs.TableLaws.{length_adjust, length-insert}
use Rattle.table.specs.Rising.{Rises}
use Rattle.table.specs.Shelf.{table_of, Shelf}
use Rattle.table.proofs.Sound.{rises_adjust, rises_insert}
use Rattle.table.specs.Keeping.{Fine}

module _ {A : Type 0} {n : ℕ} {t : Table A} (f : Fine n t) where
  pub fine_adjust : (i : ℕ) (g : A → A) → Fine n (adjust t i g)
  fine_adjust i g = record { fits = omega (arith, length_adjust t i g, f.fits); rises = rises_adjust t i g f.rises }

  pub fine_insert : {i : ℕ} → Room n t i → (r : A) → Fine n (insert t i r)
  fine_insert {i} m r = record { fits = omega (arith, length-insert t i r, m.small); rises = rises_insert t i r f.rises m.new }

-- a shelf's table
pub shelf_fine : {A : Type 0} {d : A} {n : ℕ} {ids : List ℕ} {rows : List A} {c : ℕ} → Shelf d n ids rows c → Fine n (table_of ids rows c)
shelf_fine s = record { fits = omega (arith, s.counted, s.few); rises = s.rising }

-- a struct of S that is Good is just a table that is Fine: read it with `of`, make it with `stored`
pub record Keeping {A S : Type 0} (n : ℕ) (of : S → Table A) (stored : Table A → S) (Good : S → Type 0) : Type 0 where
  pub fine : (s : S) → Good s → Fine n (of s)
  pub kept : (s : S) → Good s → stored (of s) ≡ s
  pub good : {t : Table A} → Fine n t → Good (stored t)
  pub back : {t : Table A} → Fine n t → of (stored t) ≡ t

module _ {A S : Type 0} {n : ℕ} {of : S → Table A} {stored : Table A → S} {Good : S → Type 0} (k : Keeping n of stored Good) (s : S) (g : Good s) where
  pub put_good : (i : ℕ) (f : A → A) → Good (stored (adjust (of s) i f))
  put_good i f = k.good (fine_adjust (k.fine s g) i f)

  pub put_back : (i : ℕ) (f : A → A) → of (stored (adjust (of s) i f)) ≡ adjust (of s) i f
  put_back i f = k.back (fine_adjust (k.fine s g) i f)

  pub in_good : {i : ℕ} → Room n (of s) i → (r : A) → Good (stored (insert (of s) i r))
  in_good m r = k.good (fine_insert (k.fine s g) m r)

  pub in_back : {i : ℕ} → Room n (of s) i → (r : A) → of (stored (insert (of s) i r)) ≡ insert (of s) i r
  in_back m r = k.back (fine_insert (k.fine s g) m r)
