-- Bytes that are read as a command are exactly those that writing it gives. Assumes nothing.
use Rattle.std.specs.Prelude.{◌≡◌, refl, Bool, true, false, ◌&&◌, List, [], ◌∷◌, ℕ, zero, suc, ◌+◌, ◌*◌, ◌^◌, ◌≤◌, ◌<◌, length, get_or, take, drop, set, leb}
use Rattle.std.proofs.Common.{sym, ap, ◌∙◌, arith, length-drop, take-add, leb-true}
use Rattle.refusal.specs.Choice.{pick}
use Rattle.edition.specs.Edition.{listed}
use Rattle.command.specs.declared.Command.{Command}
use Rattle.wire.specs.Field.{number_at, bytes_of, field_of, begins}
use Rattle.wire.specs.NumberLaws.{Bytes}
use Rattle.wire.specs.FieldLaws.{and_left, and_right, begins_room}
use Rattle.wire.specs.FieldTrip.{bytes_drop, field_bytes, number_whole, number_small}
use Rattle.journal.specs.Answers.{Opening, good_header, bad_header, found, ended, malformed}
use Rattle.journal.specs.Table.{top_of, named, fields_of, made, parts_of}
use Rattle.journal.specs.Format.{header_of, edition_in, opening_of, field_in, well_in, numbers_in, zeros, record_at, read_at, fields_out, bytes_for}
use Rattle.journal.specs.Held.{by_tag}
use Rattle.journal.specs.WriteLaws.{length_for}
use Rattle.journal.specs.HeldLaws.{Tops}
use Rattle.journal.specs.Faithful.{made_of}

-- the numbers of n fields
values_in : ℕ → List ℕ → List ℕ
values_in zero b = []
values_in (suc n) b = number_at 8 (drop 3 b) ∷ values_in n (drop 11 b)

length-values : (n : ℕ) (b : List ℕ) → length (values_in n b) ≡ n
unfolding values_in
length-values zero b = refl
length-values (suc n) b = ap suc (length-values n (drop 11 b))

values_small : (n : ℕ) (b : List ℕ) → Bytes b → (k : ℕ) → get_or (values_in n b) k 0 < 2 ^ 64
unfolding values_in
values_small zero b h k = omega arith
values_small (suc n) b h zero = number_small 8 (drop 3 b) (bytes_drop 3 b h)
values_small (suc n) b h (suc k) = values_small n (drop 11 b) (bytes_drop 11 b h) k

-- each in its field's range
values_range : (fs b : List ℕ) → well_in fs b ≡ true → Tops fs (values_in (length fs) b)
unfolding well_in field_in values_in
values_range [] b e = tt
values_range (f ∷ fs) b e = (
  leb-true (number_at 8 (drop 3 b)) (top_of f) (and_right (begins f 8 b) _ (and_left (field_in f b) _ e)),
  values_range fs (drop 11 b) (and_right (field_in f b) _ e),
)

by_tag_lem : (v fs b : List ℕ) → numbers_in v fs b ≡ by_tag v fs (values_in (length fs) b)
unfolding numbers_in by_tag values_in
by_tag_lem v [] b = refl
by_tag_lem v (f ∷ fs) b = by_tag_lem (set v f (number_at 8 (drop 3 b))) fs (drop 11 b)

-- the bytes of one field, and of the fields of a record
eleven : (f : ℕ) (b : List ℕ) → Bytes b → field_in f b ≡ true → take 11 b ≡ field_of f (bytes_of 8 (number_at 8 (drop 3 b)))
unfolding field_in
eleven f b k e =
    let g : begins f 8 b ≡ true = and_left (begins f 8 b) _ e in
    let l : 11 ≤ length b = omega (arith, begins_room f 8 0 b g) in
    field_bytes f 8 b k g ∙ ap (λ (w : List ℕ). field_of f w) (number_whole 8 (drop 3 b) (bytes_drop 3 b k) (rw length-drop (omega arith)))

fields_bytes : (fs b : List ℕ) → Bytes b → well_in fs b ≡ true → take (11 * length fs) b ≡ fields_out fs (values_in (length fs) b)
unfolding well_in fields_out values_in
fields_bytes [] b k e = refl
fields_bytes (f ∷ fs) b k e =
    let s : 11 * suc (length fs) ≡ 11 + 11 * length fs = omega arith in
    rw (
      s,
      take-add 11 (11 * length fs) b,
      eleven f b k (and_left (field_in f b) (well_in fs (drop 11 b)) e),
      fields_bytes fs (drop 11 b) (bytes_drop 11 b k) (and_right (field_in f b) (well_in fs (drop 11 b)) e),
    )

record_bytes : (t : ℕ) (fs b : List ℕ) → Bytes b → begins t (11 * length fs) b && well_in fs (drop 3 b) ≡ true → take (3 + 11 * length fs) b ≡ field_of t (fields_out fs (values_in (length fs) (drop 3 b)))
record_bytes t fs b k e =
    field_bytes t (11 * length fs) b k (and_left (begins t (11 * length fs) b) _ e) ∙ ap (λ (w : List ℕ). field_of t w) (fields_bytes fs (drop 3 b) (bytes_drop 3 b k) (and_right (begins t (11 * length fs) b) _ e))

-- what stands at a place
pub record Stands (e : ℕ) (s : List ℕ) (at : ℕ) (c : Command) (n : ℕ) : Type 0 where
  pub past : n ≡ at + length (bytes_for e c)
  pub bytes : take (length (bytes_for e c)) (drop at s) ≡ bytes_for e c
  pub range : Tops (fields_of e (parts_of e c).0) (parts_of e c).1

by_record : (e t : ℕ) (s : List ℕ) (at : ℕ) (c : Command) (n : ℕ) → Bytes s → record_at e t (fields_of e t) (drop at s) at ≡ found c n → Stands e s at c n
unfolding record_at pick bytes_for
by_record e t s at c n k r = go (begins t (11 * length fs) b && well_in fs (drop 3 b)) refl r
  where
    b : List ℕ
    b = drop at s

    fs : List ℕ
    fs = fields_of e t

    vs : List ℕ
    vs = values_in (length fs) (drop 3 b)

    kb : Bytes b
    kb = bytes_drop at s k

    go : (w : Bool) → begins t (11 * length fs) b && well_in fs (drop 3 b) ≡ w → pick w (made e t (named (numbers_in zeros fs (drop 3 b))) at (at + (3 + 11 * length fs))) (malformed at) ≡ found c n → Stands e s at c n
    go true q r =
        let m = made_of e t at (at + (3 + 11 * length fs)) n vs c (length-values (length fs) (drop 3 b)) (values_small (length fs) (drop 3 b) (bytes_drop 3 b kb)) (rw (by_tag_lem zeros fs (drop 3 b)) at r) in
        let i : bytes_for e c ≡ field_of t (fields_out fs vs) = ap (λ (p : ℕ × List ℕ). field_of p.0 (fields_out (fields_of e p.0) p.1)) m.1 in
        let l : length (bytes_for e c) ≡ 3 + 11 * length fs = length_for e c ∙ ap (λ (p : ℕ × List ℕ). 3 + 11 * length (fields_of e p.0)) m.1 in
        record { past = sym m.0 ∙ ap (λ (j : ℕ). at + j) (sym l); bytes = rw l (record_bytes t fs b kb q ∙ sym i); range = rw m.1 (values_range fs (drop 3 b) (and_right (begins t (11 * length fs) b) _ q)) }
    go false q r = let z : ◌≡◌ {A = ℕ} 0 1 = cc in absurd (omega arith)

-- READING THEN WRITING
pub canonical : (e : ℕ) (s : List ℕ) (at : ℕ) (c : Command) (n : ℕ) → Bytes s → read_at e s at ≡ found c n → Stands e s at c n
unfolding read_at pick
canonical e s at c n k r = go (leb (length s) at) r
  where
    go : (w : Bool) → pick w ended (record_at e (get_or s at 0) (fields_of e (get_or s at 0)) (drop at s) at) ≡ found c n → Stands e s at c n
    go true r = let z : ◌≡◌ {A = ℕ} 0 1 = cc in absurd (omega arith)
    go false r = by_record e (get_or s at 0) s at c n k r

-- and a journal that opens begins with exactly the header of its edition
pub record Headed (s : List ℕ) (e at : ℕ) : Type 0 where
  pub known : listed e ≡ true
  pub first : at ≡ 5
  pub room : 5 ≤ length s
  pub bytes : take 5 s ≡ header_of e

pub header_canonical : (s : List ℕ) (e at : ℕ) → Bytes s → opening_of s ≡ good_header e at → Headed s e at
unfolding opening_of header_of pick
header_canonical s e at k o = go (begins 0x10 2 s && listed (edition_in s)) refl o
  where
    go : (w : Bool) → begins 0x10 2 s && listed (edition_in s) ≡ w → pick w (good_header (edition_in s) 5) (bad_header 0) ≡ good_header e at → Headed s e at
    go true q o =
        let g : begins 0x10 2 s ≡ true = and_left (begins 0x10 2 s) _ q in
        let i : edition_in s ≡ e = ap (λ (h : Opening). h.edition) o in
        let l : 5 ≤ length s = omega (arith, begins_room 0x10 2 0 s g) in
        record {
          known = rw i at (and_right (begins 0x10 2 s) _ q);
          first = sym (ap (λ (h : Opening). h.first) o);
          room = l;
          bytes = field_bytes 0x10 2 s k g ∙ ap (λ (w : List ℕ). field_of 0x10 w) (number_whole 2 (drop 3 s) (bytes_drop 3 s k) (rw length-drop (omega arith)) ∙ ap (bytes_of 2) i);
        }
    go false q o = let z : ◌≡◌ {A = ℕ} 13 0 = ap (λ (h : Opening). h.answer) o in absurd (omega arith)
