-- Writing a command and reading give it back, wherever it stands. Assumes nothing.
use Rattle.std.specs.Prelude.{◌≡◌, refl, Bool, true, false, ◌&&◌, List, [], ◌∷◌, ◌++◌, ℕ, ◌+◌, ◌*◌, ◌≤◌, ◌<◌, length, get_or, take, drop, set, leb}
use Rattle.std.proofs.Common.{sym, ap, ◌∙◌, append_assoc, arith, length-append, drop_at, length-take-le, le-leb, leb-true}
use Rattle.std.proofs.Math.Seq.{drop-append_seam}
use Rattle.refusal.specs.Choice.{pick}
use Rattle.refusal.specs.ChoiceLaws.{pick_on}
use Rattle.edition.specs.Edition.{first_edition, latest_edition, listed}
use Rattle.command.specs.declared.Command.{Command}
use Rattle.wire.specs.Field.{number_at, bytes_of, head_of, field_of, begins}
use Rattle.refusal.specs.Placed.{placed, laid}
use Rattle.wire.specs.NumberLaws.{length_bytes_of}
use Rattle.wire.specs.FieldLaws.{and_left, and_right, length_field}
use Rattle.refusal.specs.PlacedLaws.{laid_in}
use Rattle.wire.specs.FieldTrip.{body_past, begins_field, number_past}
use Rattle.journal.specs.Answers.{good_header, found}
use Rattle.journal.specs.Table.{is_narrow, top_of, named, fields_of, made, parts_of}
use Rattle.journal.specs.TableLaws.{few}
use Rattle.journal.specs.Format.{header_of, edition_in, opening_of, field_in, well_in, numbers_in, zeros, record_at, read_at, fields_out, record_of, bytes_for}
use Rattle.journal.specs.ReadLaws.{at_record_lem}
use Rattle.journal.specs.WriteLaws.{length_fields, length_record}
use Rattle.journal.specs.Held.{by_tag, Held}
use Rattle.journal.specs.HeldLaws.{Tops, in_range, made_back}

-- an edition that there is fits the header's two bytes
pub listed_fits : (e : ℕ) → listed e ≡ true → e < 65536
unfolding listed
listed_fits e k = omega (arith, leb-true e latest_edition (and_right (leb first_edition e) (leb e latest_edition) k))

pub listed_from_lem : (e : ℕ) → listed e ≡ true → first_edition ≤ e
unfolding listed
listed_from_lem e k = leb-true first_edition e (and_left (leb first_edition e) (leb e latest_edition) k)

-- the header
pub header_long : (e : ℕ) → length (header_of e) ≡ 5
unfolding header_of field_of head_of bytes_of
header_long e = refl

pub header_back : (e : ℕ) (r : List ℕ) → listed e ≡ true → opening_of (header_of e ++ r) ≡ good_header e 5
unfolding opening_of header_of
header_back e r k =
    let b = field_of 0x10 (bytes_of 2 e) ++ r in
    let l : length (bytes_of 2 e) ≡ 2 = length_bytes_of 2 e in
    let a : begins 0x10 2 b ≡ true = rw l at (begins_field 0x10 (bytes_of 2 e) r (omega (arith, l))) in
    let n : edition_in b ≡ e = rw (body_past 0x10 (bytes_of 2 e) r) (number_past 2 e r (listed_fits e k)) in
    rw n (pick_on _ _ (ap (λ (t : Bool). t && listed e) a ∙ k))

top_most : (f : ℕ) → top_of f ≤ 18446744073709551615
unfolding top_of pick
top_most f = go (is_narrow f)
  where
    go : (t : Bool) → pick t 4294967295 18446744073709551615 ≤ 18446744073709551615
    go true = omega arith
    go false = omega arith

-- one field
module _ (f x : ℕ) (r : List ℕ) (h : x ≤ top_of f) where
  field_number : number_at 8 (drop 3 (field_of f (bytes_of 8 x) ++ r)) ≡ x
  field_number = rw (body_past f (bytes_of 8 x) r) (number_past 8 x r (omega (arith, top_most f)))

  field_well : field_in f (field_of f (bytes_of 8 x) ++ r) ≡ true
  unfolding field_in bytes_of
  field_well = rw (field_number, begins_field f (bytes_of 8 x) r (omega arith)) (le-leb x (top_of f) h)

field_past : (f x : ℕ) (r : List ℕ) → drop 11 (field_of f (bytes_of 8 x) ++ r) ≡ r
field_past f x r = drop_at (field_of f (bytes_of 8 x)) r 11 (length_field f x)

-- a record's fields
well_out : (fs xs r : List ℕ) → Tops fs xs → well_in fs (fields_out fs xs ++ r) ≡ true
unfolding well_in fields_out
well_out [] xs r h = refl
well_out (f ∷ fs) [] r h = absurd h
well_out (f ∷ fs) (x ∷ xs) r h =
    rw (append_assoc (field_of f (bytes_of 8 x)) (fields_out fs xs) r, field_well f x (fields_out fs xs ++ r) h.0, field_past f x (fields_out fs xs ++ r)) (well_out fs xs r h.1)

numbers_out : (v fs xs r : List ℕ) → Tops fs xs → numbers_in v fs (fields_out fs xs ++ r) ≡ by_tag v fs xs
unfolding numbers_in fields_out by_tag
numbers_out v [] xs r h = refl
numbers_out v (f ∷ fs) [] r h = absurd h
numbers_out v (f ∷ fs) (x ∷ xs) r h =
    rw (append_assoc (field_of f (bytes_of 8 x)) (fields_out fs xs) r, field_number f x (fields_out fs xs ++ r) h.0, field_past f x (fields_out fs xs ++ r)) (numbers_out (set v f x) fs xs r h.1)

-- a record of any tag and fields
record_back : (e t : ℕ) (fs xs r : List ℕ) (at : ℕ) → length fs ≤ 9 → Tops fs xs
    → record_at e t fs (field_of t (fields_out fs xs) ++ r) at ≡ made e t (named (by_tag zeros fs xs)) at (at + (3 + 11 * length fs))
unfolding record_at
record_back e t fs xs r at h k =
    let b : begins t (11 * length fs) (field_of t (fields_out fs xs) ++ r) ≡ true = rw (← length_fields fs xs) (begins_field t (fields_out fs xs) r (omega (arith, length_fields fs xs))) in
    rw (body_past t (fields_out fs xs) r, numbers_out zeros fs xs r k) (pick_on _ _ (rw (b, well_out fs xs r k)))

first_byte : (t : ℕ) (body p r : List ℕ) → get_or (p ++ (field_of t body ++ r)) (length p) 0 ≡ t
unfolding field_of head_of
first_byte t body [] r = refl
first_byte t body (x ∷ p) r = first_byte t body p r

-- the record of any tag and numbers in range, with anything before and after
pub parts_back : (e t : ℕ) (xs p r : List ℕ) → Tops (fields_of e t) xs
    → read_at e (p ++ (record_of e t xs ++ r)) (length p) ≡ made e t (named (by_tag zeros (fields_of e t) xs)) (length p) (length p + length (record_of e t xs))
parts_back e t xs p r h =
    let body = fields_out (fields_of e t) xs in
    let b = field_of t body ++ r in
    let n : length p + (3 + 11 * length (fields_of e t)) ≡ length p + length (record_of e t xs) = ap (λ (k : ℕ). length p + k) (sym (length_record e t xs)) in
    let l : length p < length (p ++ b) = omega (arith, length-append p b, length-append (field_of t body) r, length_record e t xs) in
    sym (at_record_lem e (p ++ b) (length p) l (sym
    (rw (first_byte t body p r, drop-append_seam p b)
    (record_back e t (fields_of e t) xs r (length p) (few e t) h ∙ ap (λ (k : ℕ). made e t (named (by_tag zeros (fields_of e t) xs)) (length p) k) n))))

-- WRITING THEN READING, likewise
pub read_back : (e : ℕ) (c : Command) (p r : List ℕ) → Held e c → read_at e (p ++ (bytes_for e c ++ r)) (length p) ≡ found c (length p + length (bytes_for e c))
unfolding bytes_for
read_back e c p r h = parts_back e (parts_of e c).0 (parts_of e c).1 p r (in_range e c h) ∙ made_back e c (length p) (length p + length (bytes_for e c)) h

-- what encode leaves in a buffer, read there, is the command
pub laid_back : (e : ℕ) (l : List ℕ) (c : Command) (at : ℕ) → Held e c → at + length (bytes_for e c) ≤ length l → read_at e (laid at (bytes_for e c) l) at ≡ found c (at + length (bytes_for e c))
unfolding placed
laid_back e l c at h k =
    let n : length (take at l) ≡ at = length-take-le at l (omega arith) in
    rw (laid_in at (bytes_for e c) l k) (rw n at (read_back e c (take at l) (drop (at + length (bytes_for e c)) l) h))
