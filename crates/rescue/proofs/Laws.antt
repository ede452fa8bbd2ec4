-- The bytes are accounted for, reading stops where no field fits, and a record that is read is a field that fits. Assumes nothing.
use Rattle.std.specs.Prelude.{◌≡◌, refl, Bool, true, false, ◌&&◌, List, [], ◌∷◌, ◌++◌, ℕ, zero, suc, ◌+◌, ◌*◌, ◌≤◌, length, get_or, take, drop, eqb, leb}
use Rattle.std.proofs.Common.{sym, ap, ◌∙◌, add-zero, arith, length-append, take-append-drop, length-take-le, le-leb, leb-true, eqb-true}
use Rattle.refusal.specs.Choice.{pick}
use Rattle.refusal.specs.ChoiceLaws.{either}
use Rattle.edition.specs.Edition.{listed}
use Rattle.command.specs.declared.Command.{Command}
use Rattle.wire.specs.Field.{number_in, number_at, begins}
use Rattle.wire.specs.FieldLaws.{and_left, and_right, number_there}
use Rattle.journal.specs.Answers.{good_header, bad_header, found, ended, malformed}
use Rattle.journal.specs.Table.{Row, rows, named, fields_of, made_in, made}
use Rattle.journal.specs.Format.{edition_in, opening_of, well_in, numbers_in, zeros, record_at, read_at}
use Rattle.rescue.specs.Rescue.{outer, fits, is_record, stands, piece_at, pieces_by, pieces_from, bytes_in, kept_in, lost_in, opens, pieces_of, left_of}
use Rattle.rescue.proofs.Walk.{fits_not, fits_room, accounted, parted, piece_long}
use Rattle.rescue.proofs.Answers.{opened}

-- ---- ACCOUNTED FOR: the header's five bytes, the pieces, kept and dropped in their order, and what is left are the journal

pub all_there : (s : List ℕ) → take 5 s ++ (bytes_in (pieces_of s) ++ left_of s) ≡ s
unfolding pieces_of pieces_from left_of
all_there s = ap (λ (b : List ℕ). take 5 s ++ b) (accounted (length s) (opening_of s).edition s 5) ∙ take-append-drop 5 s

-- a good header, as an equation
pub header_good : (s : List ℕ) → opens s ≡ true → opening_of s ≡ good_header (opening_of s).edition 5
unfolding opens opening_of pick
header_good s h = go (begins 0x10 2 s && listed (edition_in s)) h
  where
    go : (t : Bool) → eqb (pick t (good_header (edition_in s) 5) (bad_header 0)).answer 0 ≡ true → pick t (good_header (edition_in s) 5) (bad_header 0) ≡ good_header (pick t (good_header (edition_in s) 5) (bad_header 0)).edition 5
    go true q = refl
    go false q = let z : ◌≡◌ {A = ℕ} 13 0 = eqb-true 13 0 q in absurd (omega arith)

pub all_counted : (s : List ℕ) → opens s ≡ true → 5 + length (kept_in (pieces_of s)) + length (lost_in (pieces_of s)) + length (left_of s) ≡ length s
all_counted s h =
    let o = opened s (header_good s h) in
    let l : length (take 5 s) ≡ 5 = length-take-le 5 s o.room in
    omega (arith, parted (pieces_of s), ap length (all_there s), length-append (take 5 s) (bytes_in (pieces_of s) ++ left_of s), length-append (bytes_in (pieces_of s)) (left_of s))

-- reading stops at the first outer length that is cut or runs past the end: no piece stands at what is left
stops_by : (n e : ℕ) (s : List ℕ) (at : ℕ) → length s ≤ n + at → fits (drop (at + length (bytes_in (pieces_by n e s at))) s) ≡ false
unfolding pieces_by bytes_in
stops_by zero e s at h = rw (add-zero at) (fits_not s at (omega arith))
stops_by (suc n) e s at h =
    let o = outer (drop at s) in
    let w = bytes_in (pieces_by n e s (at + o)) in
    either (λ ps. fits (drop (at + length (bytes_in ps)) s) ≡ false) (fits (drop at s)) (piece_at e s at ∷ pieces_by n e s (at + o)) []
    (λ q.
    let r = fits_room s at q in
    let l : at + length (take o (drop at s) ++ w) ≡ at + o + length w = omega (arith, length-append (take o (drop at s)) w, piece_long s at q) in
    rw l (stops_by n e s (at + o) (omega arith)))
    (λ q. rw (add-zero at) q)

pub left_fits_not : (s : List ℕ) → fits (left_of s) ≡ false
unfolding left_of pieces_of pieces_from
left_fits_not s = stops_by (length s) (opening_of s).edition s 5 (omega arith)

-- ---- a record that is read is an outer field that fits, up to the next

made_next : (rs : List Row) (t : ℕ) (v : List ℕ) (at m : ℕ) (c : Command) (n : ℕ) → made_in rs t (named v) at m ≡ found c n → m ≡ n
unfolding made_in pick
made_next [] t v at m c n q = let z : ◌≡◌ {A = ℕ} 0 1 = cc in absurd (omega arith)
made_next (r ∷ rs) t v at m c n q = go (λ x. made_next rs t v at m c n x) (eqb t r.tag) q
  where
    go : (made_in rs t (named v) at m ≡ found c n → m ≡ n) → (b : Bool) → pick b (found (r.make (named v)) m) (made_in rs t (named v) at m) ≡ found c n → m ≡ n
    go w true q = cc
    go w false q = w q

-- what a tag and its fields make does not go by the place
pub made_moves : (rs : List Row) (t : ℕ) (v : List ℕ) (at m : ℕ) (c : Command) (n : ℕ) → made_in rs t (named v) at m ≡ found c n → (at₁ m₁ : ℕ) → made_in rs t (named v) at₁ m₁ ≡ found c m₁
unfolding made_in pick
made_moves [] t v at m c n q at₁ m₁ = let z : ◌≡◌ {A = ℕ} 0 1 = cc in absurd (omega arith)
made_moves (r ∷ rs) t v at m c n q at₁ m₁ = go (λ x. made_moves rs t v at m c n x at₁ m₁) (eqb t r.tag) q
  where
    go : (made_in rs t (named v) at m ≡ found c n → made_in rs t (named v) at₁ m₁ ≡ found c m₁) → (b : Bool) → pick b (found (r.make (named v)) m) (made_in rs t (named v) at m) ≡ found c n → pick b (found (r.make (named v)) m₁) (made_in rs t (named v) at₁ m₁) ≡ found c m₁
    go w true q = let d : r.make (named v) ≡ c = cc in ap (λ (x : Command). found x m₁) d
    go w false q = w q

pub record Found (e : ℕ) (s : List ℕ) (at n : ℕ) : Type 0 where
  pub fit : fits (drop at s) ≡ true
  pub next : n ≡ at + outer (drop at s)
  pub good : stands e s at ≡ true

begins_outer : (t k : ℕ) (b : List ℕ) → begins t k b ≡ true → (fits b ≡ true) × (outer b ≡ 3 + k)
unfolding begins outer fits
begins_outer t k b q =
    let l : 3 + k ≤ length b = leb-true (3 + k) (length b) (and_left (leb (3 + k) (length b)) _ q) in
    let n : number_in (drop 1 b) 2 ≡ k = eqb-true (number_in (drop 1 b) 2) k (and_right (eqb (get_or b 0 0) t) _ (and_right (leb (3 + k) (length b)) _ q)) in
    let o : 3 + number_at 2 (drop 1 b) ≡ 3 + k = ap (λ (x : ℕ). 3 + x) (number_there 2 1 b (omega arith) ∙ n) in
    (rw o (le-leb (3 + k) (length b) l), o)

found_record : (e t : ℕ) (fs s : List ℕ) (at : ℕ) (c : Command) (n : ℕ) → record_at e t fs (drop at s) at ≡ found c n → (fits (drop at s) ≡ true) × (n ≡ at + outer (drop at s))
unfolding record_at made pick
found_record e t fs s at c n r = go (begins t (11 * length fs) (drop at s) && well_in fs (drop 3 (drop at s))) refl r
  where
    go : (w : Bool) → begins t (11 * length fs) (drop at s) && well_in fs (drop 3 (drop at s)) ≡ w
        → pick w (made_in (rows e) t (named (numbers_in zeros fs (drop 3 (drop at s)))) at (at + (3 + 11 * length fs))) (malformed at) ≡ found c n → (fits (drop at s) ≡ true) × (n ≡ at + outer (drop at s))
    go true q r =
        let b = begins_outer t (11 * length fs) (drop at s) (and_left (begins t (11 * length fs) (drop at s)) _ q) in
        (b.0, sym (made_next (rows e) t _ at _ c n r) ∙ ap (λ (x : ℕ). at + x) (sym b.1))
    go false q r = let z : ◌≡◌ {A = ℕ} 0 1 = cc in absurd (omega arith)

pub is_found : (e : ℕ) (s : List ℕ) (at : ℕ) (c : Command) (n : ℕ) → read_at e s at ≡ found c n → Found e s at n
unfolding read_at stands pick
is_found e s at c n r = go (leb (length s) at) r (ap is_record r)
  where
    go : (w : Bool) → pick w ended (record_at e (get_or s at 0) (fields_of e (get_or s at 0)) (drop at s) at) ≡ found c n → is_record (read_at e s at) ≡ true → Found e s at n
    go true r g = let z : ◌≡◌ {A = ℕ} 0 1 = cc in absurd (omega arith)
    go false r g = let f = found_record e (get_or s at 0) (fields_of e (get_or s at 0)) s at c n r in record { fit = f.0; next = f.1; good = g }
