-- What the table says of a tag that no row has, and of a tag that is known. Assumes nothing.
use Rattle.std.specs.Prelude.{◌≡◌, refl, Bool, true, false, ◌&&◌, List, [], ◌∷◌, ◌++◌, ℕ, zero, suc, ◌-◌, ◌≤◌, ◌<◌, length, get_or, take, replicate, eqb, leb, ltb}
use Rattle.std.proofs.Common.{append_assoc, append-nil, arith, length-append, ne_eqb, leb-true, ltb-true}
use Rattle.std.proofs.Math.Seq.{take-append_seam}
use Rattle.refusal.specs.Choice.{pick}
use Rattle.refusal.specs.ChoiceLaws.{pick_off}
use Rattle.edition.specs.Edition.{keeps_terms}
use Rattle.wire.specs.FieldLaws.{and_left, and_right}
use Rattle.journal.specs.Answers.{malformed}
use Rattle.journal.specs.Table.{Row, also, rows_in, rows, fields_in, fields_of, made_in, made, padded}
use Rattle.journal.specs.declared.reading.Values.{Values}

pub zeros_at : (n k : ℕ) → ◌≡◌ {A = ℕ} (get_or (replicate n 0) k 0) 0
zeros_at zero k = refl
zeros_at (suc n) zero = refl
zeros_at (suc n) (suc k) = zeros_at n k

-- what the last arm of a `match` with an arm for each row knows of the tag
abbrev pub Other : Type 0 → List Row → ℕ → Type 0
Other A [] t = A
Other A (r ∷ rs) t = Other (A × (t ≡ r.tag → ⊥)) rs t

other_row : (A : Type 0) (rs : List Row) (t : ℕ) → Other A rs t → (fields_in rs t ≡ []) × (((f : Values) (at next : ℕ) → made_in rs t f at next ≡ malformed at) × A)
unfolding fields_in made_in
other_row A [] t x = (refl, (λ f at next. refl, x))
other_row A (r ∷ rs) t x =
    let y = other_row (A × (t ≡ r.tag → ⊥)) rs t x in
    let e = ne_eqb t r.tag y.1.1.1 in
    (rw (pick_off r.fields (fields_in rs t) e) y.0, (λ f at next. rw (pick_off _ (made_in rs t f at next) e) (y.1.0 f at next), y.1.1.0))

pub no_fields : (e t : ℕ) → Other Unit (rows e) t → fields_of e t ≡ []
unfolding fields_of
no_fields e t x = (other_row Unit (rows e) t x).0

pub not_made : (e t : ℕ) (f : Values) (at next : ℕ) → Other Unit (rows e) t → made e t f at next ≡ malformed at
unfolding made
not_made e t f at next x = (other_row Unit (rows e) t x).1.0 f at next

-- ---- no row has more fields than an array of nine holds, and no tag is past the places of the numbers

abbrev low_all : List ℕ → Bool
low_all [] = true
low_all (f ∷ fs) = ltb f 32 && low_all fs

abbrev is_fine : List ℕ → Bool
is_fine l = leb (length l) 9 && low_all l

abbrev all_fine : List Row → Bool
all_fine [] = true
all_fine (r ∷ rs) = is_fine r.fields && all_fine rs

fine_pick : (b : Bool) (x y : List ℕ) → is_fine x ≡ true → is_fine y ≡ true → is_fine (pick b x y) ≡ true
unfolding pick
fine_pick true x y h k = h
fine_pick false x y h k = k

fine_in : (rs : List Row) (t : ℕ) → all_fine rs ≡ true → is_fine (fields_in rs t) ≡ true
unfolding fields_in
fine_in [] t e = refl
fine_in (r ∷ rs) t e =
    fine_pick (eqb t r.tag) r.fields (fields_in rs t) (and_left (is_fine r.fields) (all_fine rs) e) (fine_in rs t (and_right (is_fine r.fields) (all_fine rs) e))

all_fine_lem : (kinds : Bool) → all_fine (rows_in kinds) ≡ true
unfolding pick
all_fine_lem true = refl
all_fine_lem false = refl

fine : (e t : ℕ) → is_fine (fields_of e t) ≡ true
unfolding fields_of
fine e t = fine_in (rows e) t (all_fine_lem (keeps_terms e))

pub few : (e t : ℕ) → length (fields_of e t) ≤ 9
few e t = leb-true (length (fields_of e t)) 9 (and_left (leb (length (fields_of e t)) 9) (low_all (fields_of e t)) (fine e t))

low_at : (l : List ℕ) (n k : ℕ) → low_all l ≡ true → get_or (l ++ replicate n 0) k 0 < 32
low_at [] n k e = omega (arith, zeros_at n k)
low_at (x ∷ l) n zero e = ltb-true x 32 (and_left (ltb x 32) (low_all l) e)
low_at (x ∷ l) n (suc k) e = low_at l n k (and_right (ltb x 32) (low_all l) e)

pub low_field : (e t k : ℕ) → get_or (fields_of e t) k 0 < 32
low_field e t k = rw append-nil at (low_at (fields_of e t) 0 k (and_right (leb (length (fields_of e t)) 9) (low_all (fields_of e t)) (fine e t)))

pub low : (e t k : ℕ) → get_or (padded (fields_of e t)) k 0 < 32
unfolding padded
low e t k = low_at (fields_of e t) (9 - length (fields_of e t)) k (and_right (leb (length (fields_of e t)) 9) (low_all (fields_of e t)) (fine e t))

-- ---- lists in arrays

pub take_padded : (l : List ℕ) → take (length l) (padded l) ≡ l
unfolding padded
take_padded l = take-append_seam l (replicate (9 - length l) 0)

-- a last number that some editions' records have stands in its place in each of them
pub padded_also : (has : Bool) (l : List ℕ) (x : ℕ) → length l < 9 → l ++ (pick has x 0 ∷ replicate (8 - length l) 0) ≡ padded (l ++ also has x)
unfolding padded pick
padded_also true l x h =
    let n : 9 - length (l ++ x ∷ []) ≡ 8 - length l = omega (arith, length-append l (x ∷ [])) in
    rw (n, append_assoc l (x ∷ []) (replicate (8 - length l) 0))
padded_also false l x h =
    let n : 9 - length l ≡ suc (8 - length l) = omega arith in
    rw (append-nil l, n)
