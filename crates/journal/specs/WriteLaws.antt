-- What writing goes by. Assumes nothing.
use Rattle.std.specs.Prelude.{◌≡◌, List, [], ◌∷◌, ◌++◌, ℕ, zero, suc, ◌+◌, ◌*◌, ◌-◌, ◌≤◌, ◌<◌, get_or, take, drop, replicate}
use Rattle.std.proofs.Math.Path.{refl, sym}
use Rattle.std.proofs.Common.{ap, ◌∙◌, append_assoc, append-nil, arith, add-one, length-append, length-take-le, get_or-drop, le-leb}
use Rattle.std.proofs.Math.ListN.{length}
use Rattle.std.proofs.lemmas.Bool.{lt-leb}
use Rattle.refusal.specs.ChoiceLaws.{on, off}
use Rattle.refusal.specs.Refusal.{number, buffer_short}
use Rattle.command.specs.declared.Command.{Command}
use Rattle.wire.specs.Field.{bytes_of, head_of, field_of}
use Rattle.refusal.specs.Placed.{placed, laid}
use Rattle.wire.specs.FieldLaws.{length_field}
use Rattle.refusal.specs.PlacedLaws.{laid_out, laid_in, placed_twice}
use Rattle.journal.specs.Table.{fields_of, parts_of, padded, sent}
use Rattle.journal.specs.Format.{fields_out, record_of, bytes_for, writing}

pub length_fields : (fs vs : List ℕ) → length (fields_out fs vs) ≡ 11 * length fs
unfolding fields_out
length_fields [] vs = refl
length_fields (f ∷ fs) vs = length-append (field_of f (bytes_of 8 (get_or vs 0 0))) (fields_out fs (drop 1 vs)) ∙ rw (length_field f (get_or vs 0 0), length_fields fs (drop 1 vs)) (omega arith)

fields-more : (fs vs : List ℕ) (i : ℕ) → i < length fs → fields_out (take (suc i) fs) vs ≡ fields_out (take i fs) vs ++ field_of (get_or fs i 0) (bytes_of 8 (get_or vs i 0))
unfolding fields_out
fields-more [] vs i h = absurd (omega arith)
fields-more (f ∷ fs) vs zero h = append-nil (field_of f (bytes_of 8 (get_or vs 0 0)))
fields-more (f ∷ fs) vs (suc i) h =
    let w = field_of f (bytes_of 8 (get_or vs 0 0)) in
    let x = fields_out (take i fs) (drop 1 vs) in
    let e : get_or (drop 1 vs) i 0 ≡ get_or vs (suc i) 0 = get_or-drop 1 vs i 0 ∙ ap (λ (k : ℕ). get_or vs k 0) (omega arith) in
    ap (λ (l : List ℕ). w ++ l) (fields-more fs (drop 1 vs) i (omega arith))
    ∙ sym (append_assoc w x (field_of (get_or fs i 0) (bytes_of 8 (get_or (drop 1 vs) i 0))))
    ∙ ap (λ (n : ℕ). (w ++ x) ++ field_of (get_or fs i 0) (bytes_of 8 n)) e

-- a turn of the loop that writes fields
pub fields_turn : (fs vs l : List ℕ) (p i : ℕ) → i < length fs → p + 11 * (i + 1) ≤ length l
    → placed (p + 11 * i) (field_of (get_or fs i 0) (bytes_of 8 (get_or vs i 0))) (placed p (fields_out (take i fs) vs) l) ≡ placed p (fields_out (take (i + 1) fs) vs) l
fields_turn fs vs l p i h k =
    let w = fields_out (take i fs) vs in
    let x = field_of (get_or fs i 0) (bytes_of 8 (get_or vs i 0)) in
    let e : length w ≡ 11 * i = length_fields (take i fs) vs ∙ ap (λ (n : ℕ). 11 * n) (length-take-le i fs (omega arith)) in
    let g : length x ≡ 11 = length_field (get_or fs i 0) (get_or vs i 0) in
    rw (← e, add-one i, fields-more fs vs i h) (placed_twice p w x l (omega arith))

-- numbers in an array
fields_zeros : (fs vs : List ℕ) (n : ℕ) → fields_out fs (vs ++ replicate n 0) ≡ fields_out fs vs
unfolding fields_out
fields_zeros [] vs n = refl
fields_zeros (f ∷ fs) [] zero = refl
fields_zeros (f ∷ fs) [] (suc n) = ap (λ (l : List ℕ). field_of f (bytes_of 8 0) ++ l) (fields_zeros fs [] n)
fields_zeros (f ∷ fs) (v ∷ vs) n = ap (λ (l : List ℕ). field_of f (bytes_of 8 v) ++ l) (fields_zeros fs vs n)

-- a record: its head, then its fields
pub record_placed : (t : ℕ) (fs vs l : List ℕ) (at : ℕ) → at + (3 + 11 * length fs) ≤ length l
    → placed (at + 3) (fields_out fs vs) (placed at (head_of t (11 * length fs)) l) ≡ placed at (field_of t (fields_out fs vs)) l
unfolding field_of head_of bytes_of
record_placed t fs vs l at h =
    let e : length (fields_out fs vs) ≡ 11 * length fs = length_fields fs vs in
    rw (← e) (placed_twice at (head_of t (length (fields_out fs vs))) (fields_out fs vs) l (omega (arith, e)))

pub length_record : (e t : ℕ) (vs : List ℕ) → length (record_of e t vs) ≡ 3 + 11 * length (fields_of e t)
unfolding field_of head_of bytes_of
length_record e t vs = omega (arith, length_fields (fields_of e t) vs)

-- the numbers in an array give the same record
pub record_sent : (e : ℕ) (x : ℕ × List ℕ) {p : ℕ × List ℕ} → p ≡ sent x → record_of e p.0 p.1 ≡ record_of e x.0 x.1
unfolding padded
record_sent e x {p} d =
    ap (λ (q : ℕ × List ℕ). record_of e q.0 q.1) d ∙ ap (λ (w : List ℕ). field_of x.0 w) (fields_zeros (fields_of e x.0) x.1 (9 - length x.1))

pub command_parts : (e : ℕ) (c : Command) {p : ℕ × List ℕ} → p ≡ sent (parts_of e c) → record_of e p.0 p.1 ≡ bytes_for e c
unfolding bytes_for
command_parts e c d = record_sent e (parts_of e c) d

pub length_for : (e : ℕ) (c : Command) → length (bytes_for e c) ≡ 3 + 11 * length (fields_of e (parts_of e c).0)
unfolding bytes_for
length_for e c = length_record e (parts_of e c).0 (parts_of e c).1

-- the two answers
module _ (at : ℕ) (w l : List ℕ) where
  pub short : length l < at + length w → ((number buffer_short, 0) ≡ writing at w l) × (l ≡ laid at w l)
  unfolding writing
  short h = (off _ (lt-leb (at + length w) (length l) h) refl, sym (laid_out at w l h))

  pub fitting : {n : ℕ} {m : List ℕ} → at + length w ≤ length l → n ≡ length w → m ≡ placed at w l → ((0, n) ≡ writing at w l) × (m ≡ laid at w l)
  unfolding writing
  fitting h e p = (on _ (le-leb (at + length w) (length l) h) (ap (λ (k : ℕ). (0, k)) e), p ∙ sym (laid_in at w l h))
