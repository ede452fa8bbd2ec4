-- What the loops over a record's fields go by. Assumes nothing.
use Rattle.std.specs.Prelude.{◌≡◌, refl, Bool, true, false, ◌&&◌, ℕ, suc, ◌+◌, ◌≤◌, ◌<◌, length, get_or, set, Some, None}
use Rattle.std.proofs.Math.Path.{sym, ap}
use Rattle.std.proofs.Common.{◌∙◌, add-one}
use mathlib.Core.List.{List, ◌∷◌}
use Rattle.std.proofs.Math.ListN.{drop}
use Rattle.std.proofs.Math.Seq.{drop-cons, drop-drop, drop-length}
use borrow.Author.Tests.{le-leb, lt-leb}
use Rattle.refusal.specs.ChoiceLaws.{pick_on, pick_off}
use Rattle.wire.specs.Field.{number_at, begins}
use Rattle.journal.specs.Table.{top_of}
use Rattle.journal.specs.Format.{field_in, well_in, numbers_in, zeros, gathered_in}

pub and_off : (a : Bool) → a && false ≡ false
and_off true = refl
and_off false = refl

-- ---- a field at a place

module _ (f q : ℕ) (s : List ℕ) where
  pub field_in_lem : begins f 8 (drop q s) ≡ true → number_at 8 (drop (q + 3) s) ≤ top_of f → field_in f (drop q s) ≡ true
  unfolding field_in
  field_in_lem e h = rw (e, drop-drop 3 q s, le-leb (number_at 8 (drop (q + 3) s)) (top_of f) h)

  pub field_other : begins f 8 (drop q s) ≡ false → field_in f (drop q s) ≡ false
  unfolding field_in
  field_other e = rw e

  pub field_high : top_of f < number_at 8 (drop (q + 3) s) → field_in f (drop q s) ≡ false
  unfolding field_in
  field_high h = rw (drop-drop 3 q s, lt-leb (number_at 8 (drop (q + 3) s)) (top_of f) h) (and_off (begins f 8 (drop q s)))

-- ---- reading: the first i fields are read, and v holds their numbers

module _ (fs s : List ℕ) (p : ℕ) where
  pub record Going (i q : ℕ) (v : List ℕ) : Type 0 where
    pub well : well_in fs (drop p s) ≡ well_in (drop i fs) (drop q s)
    pub same : numbers_in zeros fs (drop p s) ≡ numbers_in v (drop i fs) (drop q s)

  pub going_start : {q : ℕ} → q ≡ p → Going 0 q zeros
  going_start e = rw e record { well = refl; same = refl }

  pub going_on : (i q f : ℕ) {v : List ℕ} → i < length fs → get_or fs i 0 ≡ f → field_in f (drop q s) ≡ true → Going i q v → Going (i + 1) (q + 11) (set v f (number_at 8 (drop (q + 3) s)))
  unfolding well_in numbers_in
  going_on i q f {v} h k e g = record {
    well = g.well ∙ rw (add-one i, drop-cons fs i 0 h, k, e, drop-drop 11 q s);
    same = g.same ∙ ap (λ (l : List ℕ). numbers_in v l (drop q s)) (drop-cons fs i 0 h ∙ ap (λ (x : ℕ). x ∷ drop (suc i) fs) k) ∙ rw (add-one i, ← drop-drop 11 q s, ← drop-drop 3 q s);
  }

  pub going_out : (i q f : ℕ) {v : List ℕ} → i < length fs → get_or fs i 0 ≡ f → field_in f (drop q s) ≡ false → Going i q v → None ≡ gathered_in fs (drop p s)
  unfolding well_in gathered_in
  going_out i q f h k e g = sym (pick_off _ _ (g.well ∙ rw (drop-cons fs i 0 h, k, e)))

  pub going_done : (i q : ℕ) {v : List ℕ} → i ≡ length fs → Going i q v → Some v ≡ gathered_in fs (drop p s)
  unfolding well_in numbers_in gathered_in
  going_done i q {v} e g =
      let n : numbers_in zeros fs (drop p s) ≡ v = g.same ∙ rw (e, drop-length fs) in
      sym (pick_on _ _ (g.well ∙ rw (e, drop-length fs)) ∙ ap (λ (l : List ℕ). Some l) n)
