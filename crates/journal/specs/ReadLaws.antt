-- What reading goes by at each of its answers. Assumes nothing.
use Rattle.std.specs.Prelude.{◌≡◌, refl, Bool, false, ◌&&◌, List, [], ◌∷◌, ℕ, zero, suc, ◌+◌, ◌*◌, ◌≤◌, ◌<◌, get_or, drop, set, leb, Some, None}
use Rattle.std.proofs.Math.Path.{sym}
use Rattle.std.proofs.Common.{ap, ◌∙◌, arith, le-leb, leb-true}
use Rattle.std.proofs.Math.Bool.{true}
use Rattle.std.proofs.Math.ListN.{length}
use Rattle.std.proofs.Math.Seq.{drop-drop}
use Rattle.std.proofs.lemmas.Bool.{lt-leb}
use Rattle.refusal.specs.ChoiceLaws.{pick_on, pick_off}
use Rattle.wire.specs.Field.{number_at, begins}
use Rattle.wire.specs.FieldLaws.{and_left, and_right}
use Rattle.journal.specs.Answers.{Reading, ended, malformed}
use Rattle.journal.specs.Table.{fields_of, top_of, named, made}
use Rattle.journal.specs.TableLaws.{zeros_at}
use Rattle.journal.specs.Format.{field_in, well_in, numbers_in, zeros, gathered_in, record_at, read_at}
use Rattle.journal.specs.FieldLaws.{and_off}

pub at-end : (e : ℕ) (s : List ℕ) (at : ℕ) → length s ≤ at → ended ≡ read_at e s at
unfolding read_at
at-end e s at h = sym (pick_on _ _ (le-leb (length s) at h))

pub at_record_lem : (e : ℕ) (s : List ℕ) (at : ℕ) → at < length s → {r : Reading} → r ≡ record_at e (get_or s at 0) (fields_of e (get_or s at 0)) (drop at s) at → r ≡ read_at e s at
unfolding read_at
at_record_lem e s at h q = q ∙ sym (pick_off _ _ (lt-leb (length s) at h))

-- by whether the fields stand there
gathered : (fs b : List ℕ) {v : List ℕ} → gathered_in fs b ≡ Some v → (well_in fs b ≡ true) × (numbers_in zeros fs b ≡ v)
unfolding gathered_in
gathered fs b {v} h = go (well_in fs b) refl
  where
    go : (t : Bool) → well_in fs b ≡ t → (well_in fs b ≡ true) × (numbers_in zeros fs b ≡ v)
    go true e = let q : Some (numbers_in zeros fs b) ≡ Some v = sym (pick_on _ _ e) ∙ h in (e, cc)
    go false e = let q : None ≡ Some v = sym (pick_off _ _ e) ∙ h in absurd (cc)

scattered : (fs b : List ℕ) → gathered_in fs b ≡ None → well_in fs b ≡ false
unfolding gathered_in
scattered fs b h = go (well_in fs b) refl
  where
    go : (t : Bool) → well_in fs b ≡ t → well_in fs b ≡ false
    go true e = let q : Some (numbers_in zeros fs b) ≡ None = sym (pick_on _ _ e) ∙ h in absurd (cc)
    go false e = e

module _ (e t : ℕ) (fs s : List ℕ) (at : ℕ) where
  pub no_head : begins t (11 * length fs) (drop at s) ≡ false → malformed at ≡ record_at e t fs (drop at s) at
  unfolding record_at
  no_head q = sym (pick_off _ _ (ap (λ (x : Bool). x && well_in fs (drop 3 (drop at s))) q))

  pub not_well : gathered_in fs (drop (at + 3) s) ≡ None → malformed at ≡ record_at e t fs (drop at s) at
  unfolding record_at
  not_well q = sym (pick_off _ _ (ap (λ (x : Bool). begins t (11 * length fs) (drop at s) && x) (rw (drop-drop 3 at s) (scattered fs (drop (at + 3) s) q)) ∙ and_off (begins t (11 * length fs) (drop at s))))

  pub whole : {v : List ℕ} → begins t (11 * length fs) (drop at s) ≡ true → gathered_in fs (drop (at + 3) s) ≡ Some v
      → made e t (named v) at (at + (3 + 11 * length fs)) ≡ record_at e t fs (drop at s) at
  unfolding record_at
  whole q k =
      let g = gathered fs (drop (at + 3) s) k in
      rw (← g.1, ← drop-drop 3 at s)
      (sym (pick_on _ _ (ap (λ (x : Bool). x && well_in fs (drop 3 (drop at s))) q ∙ rw (drop-drop 3 at s) g.0)))

-- each number is in its range
set_le : (v : List ℕ) (f x k m : ℕ) → (k ≡ f → x ≤ m) → get_or v k 0 ≤ m → get_or (set v f x) k 0 ≤ m
set_le [] f x k m h g = g
set_le (y ∷ v) zero x zero m h g = h refl
set_le (y ∷ v) zero x (suc k) m h g = g
set_le (y ∷ v) (suc f) x zero m h g = g
set_le (y ∷ v) (suc f) x (suc k) m h g = set_le v f x k m (λ e. h (ap suc e)) g

tops : (v fs b : List ℕ) → ((k : ℕ) → get_or v k 0 ≤ top_of k) → well_in fs b ≡ true → (k : ℕ) → get_or (numbers_in v fs b) k 0 ≤ top_of k
unfolding well_in numbers_in field_in
tops v [] b h e k = h k
tops v (f ∷ fs) b h e k =
    let i : leb (number_at 8 (drop 3 b)) (top_of f) ≡ true = and_right (begins f 8 b) _ (and_left (field_in f b) (well_in fs (drop 11 b)) e) in
    let l : number_at 8 (drop 3 b) ≤ top_of f = leb-true (number_at 8 (drop 3 b)) (top_of f) i in
    tops (set v f (number_at 8 (drop 3 b))) fs (drop 11 b) (λ j. set_le v f (number_at 8 (drop 3 b)) j (top_of j) (λ q. rw q l) (h j)) (and_right (field_in f b) (well_in fs (drop 11 b)) e) k

pub all_tops : (fs b : List ℕ) {v : List ℕ} → gathered_in fs b ≡ Some v → (k : ℕ) → get_or v k 0 ≤ top_of k
all_tops fs b h k = let g = gathered fs b h in rw (← g.1) (tops zeros fs b (λ j. omega (arith, zeros_at 32 j)) g.0 k)
