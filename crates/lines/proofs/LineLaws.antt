-- What the loop over the rows goes by. Assumes nothing.
use Rattle.std.specs.Prelude.{◌≡◌, Bool, true, false, length, get_or, min, ltb}
use Rattle.std.proofs.Math.Path.{refl, ap}
use Rattle.std.proofs.Common.{sym, arith, add-one, ltb-true, ltb-false}
use mathlib.Core.List.{List, [], ◌∷◌, ◌++◌, append-nil, append_assoc}
use Prim.Native.Nat.{ℕ, zero, suc, ◌+◌, ◌≤◌, ◌<◌}
use Rattle.table.specs.Tables.{Table}
use Rattle.table.specs.Shelf.{table_of}
use Rattle.account.specs.declared.Account.{Account}
use Rattle.lines.specs.Lines.{account_line, account_lines}

module _ {A : Type 0} where
  -- one row more
  table_suc : (d : A) (ids : List ℕ) (rows : List A) (i : ℕ) → i < length ids → i < length rows → table_of ids rows (suc i) ≡ table_of ids rows i ++ ((get_or ids i 0, get_or rows i d) ∷ [])
  unfolding table_of
  table_suc d [] rows i h k = absurd (omega arith)
  table_suc d (x ∷ ids) [] i h k = absurd (omega arith)
  table_suc d (x ∷ []) (r ∷ rows) zero h k = refl
  table_suc d (x ∷ (y ∷ ids)) (r ∷ []) zero h k = refl
  table_suc d (x ∷ (y ∷ ids)) (r ∷ (s ∷ rows)) zero h k = refl
  table_suc d (x ∷ ids) (r ∷ rows) (suc i) h k = ap (λ t. (x, r) ∷ t) (table_suc d ids rows i (omega arith) (omega arith))

  -- no more rows than there are
  table_all : (ids : List ℕ) (rows : List A) (i n : ℕ) → length ids ≤ i → i ≤ n → table_of ids rows i ≡ table_of ids rows n
  unfolding table_of
  table_all [] rows i n h k = refl
  table_all (x ∷ ids) [] i n h k = refl
  table_all (x ∷ ids) (r ∷ rows) zero n h k = absurd (omega arith)
  table_all (x ∷ ids) (r ∷ rows) (suc i) zero h k = absurd (omega arith)
  table_all (x ∷ ids) (r ∷ rows) (suc i) (suc n) h k = ap (λ t. (x, r) ∷ t) (table_all ids rows i n (omega arith) (omega arith))

  -- the least of n and the places there are
  pub table_least : (ids : List ℕ) (rows : List A) (i n : ℕ) → length ids ≡ 64 → i ≡ min n 64 → table_of ids rows i ≡ table_of ids rows n
  table_least ids rows i n l e = go (ltb 64 n) refl
    where
      go : (t : Bool) → ltb 64 n ≡ t → table_of ids rows i ≡ table_of ids rows n
      go true k = let h : 64 < n = ltb-true 64 n k in table_all ids rows i n (omega arith) (omega arith)
      go false k = let h : n ≤ 64 = ltb-false 64 n k in ap (table_of ids rows) (let q : i ≡ n = omega arith in q)

lines-append : (s t : Table Account) → account_lines (s ++ t) ≡ account_lines s ++ account_lines t
unfolding account_lines
lines-append [] t = refl
lines-append (e ∷ s) t = rw (lines-append s t) (sym (append_assoc (account_line e.0 e.1) (account_lines s) (account_lines t)))

pub lines_none : (ids : List ℕ) (rows : List Account) → account_lines (table_of ids rows 0) ≡ []
unfolding table_of account_lines
lines_none [] rows = refl
lines_none (x ∷ ids) [] = refl
lines_none (x ∷ ids) (r ∷ rows) = refl

pub lines_turn : (d : Account) (ids : List ℕ) (rows : List Account) (i : ℕ) → i < length ids → i < length rows
    → account_lines (table_of ids rows (i + 1)) ≡ account_lines (table_of ids rows i) ++ account_line (get_or ids i 0) (get_or rows i d)
unfolding account_lines
lines_turn d ids rows i h k = rw (add-one, table_suc d ids rows i h k, lines-append (table_of ids rows i) ((get_or ids i 0, get_or rows i d) ∷ []), append-nil)
