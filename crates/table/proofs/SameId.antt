-- A row put anew or let in, and looked up at the same id. Over any row type.
use Rattle.std.specs.Prelude.{ℕ, ◌≡◌, cond, eqb}
use Rattle.std.proofs.Math.Path.{refl}
use Rattle.std.proofs.Common.{ap, ◌∙◌, eq-eqb}
use mathlib.Core.List.{[], ◌∷◌}
use Rattle.table.specs.Tables.{Found, absent, here, Table, find, adjust, insert, fmap}
use Rattle.table.specs.Deciding.{Is, is_true, is_false, decide}
use Rattle.table.proofs.TableLaws.{find_adjust, find_insert, adjust_absent, adjust_to}

module _ {A : Type 0} where
  pub find-put : (t : Table A) (o : ℕ) (d : A) → find (adjust t o (λ old. d)) o ≡ fmap (λ old. d) (find t o)
  find-put t o d = find_adjust t o o (λ old. d) ∙ ap (λ b. cond b (fmap (λ old. d) (find t o)) (find t o)) (eq-eqb o o refl)

  pub find_in_lem : (t : Table A) (o : ℕ) (d : A) → find t o ≡ absent → find (insert t o d) o ≡ here d
  find_in_lem t o d e = find_insert t o o d e ∙ ap (λ b. cond b (here d) (find t o)) (eq-eqb o o refl)

  -- the second row stays
  pub put_twice : (t : Table A) (o : ℕ) (x y : A) → adjust (adjust t o (λ old. x)) o (λ old. y) ≡ adjust t o (λ old. y)
  unfolding adjust
  put_twice [] o x y = refl
  put_twice (e ∷ t) o x y = go (decide (eqb e.0 o)) (put_twice t o x y)
    where
      go : Is (eqb e.0 o) → adjust (adjust t o (λ old. x)) o (λ old. y) ≡ adjust t o (λ old. y)
          → adjust (adjust (e ∷ t) o (λ old. x)) o (λ old. y) ≡ adjust (e ∷ t) o (λ old. y)
      go (is_true q) h = rw (q, q)
      go (is_false q) h = rw (q, q) (ap (λ z. e ∷ z) h)

  adjust_id : (t : Table A) (i : ℕ) → adjust t i (λ old. old) ≡ t
  unfolding adjust
  adjust_id [] i = refl
  adjust_id (e ∷ t) i = go (decide (eqb e.0 i)) (adjust_id t i)
    where
      go : Is (eqb e.0 i) → adjust t i (λ old. old) ≡ t → adjust (e ∷ t) i (λ old. old) ≡ e ∷ t
      go (is_true q) h = rw q
      go (is_false q) h = rw q (ap (λ z. e ∷ z) h)

  -- the row that was found, put back
  pub adjust_back : (g : Found A → A) → ((r : A) → g (here r) ≡ r) → (t : Table A) (i : ℕ) → adjust t i (λ old. g (find t i)) ≡ t
  adjust_back g h t i = go (find t i) refl
    where
      go : (o : Found A) → find t i ≡ o → adjust t i (λ old. g (find t i)) ≡ t
      go absent e = adjust_absent t i (λ old. g (find t i)) e
      go (here r) e = adjust_to t i (λ old. g (find t i)) (λ old. old) r e (ap g e ∙ h r) ∙ adjust_id t i
