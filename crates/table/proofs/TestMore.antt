-- One row more, at the first place that is free, keeps the tests of the rows. Over any row type and any size.
use Rattle.std.specs.Prelude.{ℕ, ◌+◌, ◌<◌, ◌≤◌, ◌≡◌, refl, Bool, true, false, List, length, get_or, set, eqb}
use Rattle.std.proofs.Common.{arith, ap, ◌∙◌, get_or-set_same, get_or-set_other, eqb-true}
use Rattle.std.proofs.lemmas.Bool.{eqb-false}
use Rattle.table.specs.All.{all-at, all_make}
use Rattle.table.specs.Test.{row_test, rows_test}
use Rattle.table.proofs.TestLaws.{used, free, make}

module _ {A : Type 0} (q z : A → Bool) (d : A) (size n : ℕ) (rows : List A) (r : A) (long : length rows ≡ size) (room : n < size) where
  pub rows_more : q r ≡ true → rows_test q z d size n rows ≡ true → rows_test q z d size (n + 1) (set rows n r) ≡ true
  rows_more k e = all_make (row_test q z d (n + 1) (set rows n r)) size (λ i l. make (n + 1) i (q (get_or (set rows n r) i d)) (z (get_or (set rows n r) i d)) (λ h. below i l h (eqb i n) refl) (λ h. rest i l h))
    where
      test : (i : ℕ) → i < size → row_test q z d n rows i ≡ true
      test = all-at (row_test q z d n rows) size e

      below : (i : ℕ) → i < size → i < n + 1 → (b : Bool) → eqb i n ≡ b → q (get_or (set rows n r) i d) ≡ true
      below i l h true s = ap (λ j. q (get_or (set rows n r) j d)) (eqb-true i n s) ∙ ap q (get_or-set_same rows n r d (omega (arith, long))) ∙ k
      below i l h false s =
          let o = eqb-false i n s in
          ap q (get_or-set_other rows n i r d o) ∙ used n i (q (get_or rows i d)) (z (get_or rows i d)) (test i l) (omega arith)

      rest : (i : ℕ) → i < size → n + 1 ≤ i → z (get_or (set rows n r) i d) ≡ true
      rest i l h = ap z (get_or-set_other rows n i r d (λ e. omega arith)) ∙ free n i (q (get_or rows i d)) (z (get_or rows i d)) (test i l) (omega arith)
