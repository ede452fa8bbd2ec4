-- A line that is written is read back. Assumes nothing.
use Rattle.std.specs.Prelude.{◌≡◌, refl, true, ℕ, ◌+◌, ◌≤◌, ◌<◌, drop}
use Rattle.std.proofs.Math.Path.{sym, ap}
use Rattle.std.proofs.Common.{◌∙◌, arith}
use mathlib.Core.List.{List, [], ◌∷◌, ◌++◌, append_assoc}
use Rattle.std.proofs.Math.ListN.{length, get_or, length-append}
use Rattle.std.proofs.Math.Seq.{drop-append_seam, get_or-append_seam, get_or-append-add}
use Rattle.refusal.specs.Choice.{pick}
use Rattle.refusal.specs.ChoiceLaws.{pick_on}
use Rattle.sheet.specs.Decimal.{space, newline}
use Rattle.journal.specs.Table.{top_of}
use Rattle.journal.specs.HeldLaws.{Tops}
use Rattle.text.specs.Names.{commands, word_of}
use Rattle.text.specs.NameLaws.{is_tag}
use Rattle.text.specs.Fields.{fields_for}
use Rattle.text.specs.Line.{numeral_of, numerals_of, line_of}
use Rattle.text.specs.Walk.{item}
use Rattle.text.specs.Reading.{numeral, Read, spaced_in, read_in, line_by, line_in, line_at, command_at}
use Rattle.text.specs.LineReads.{numbers_there, lined}
use Rattle.text.specs.LineWalk.{onward, at_line, at-end}
use Rattle.text.specs.NamesApart.{breaks, Found, command_found}
use Rattle.text.specs.NumberBack.{Stop, numeral_back}
use Rattle.text.specs.Trip.{Writes}
use Rattle.text.specs.LineWay.{Good}

-- ---- the numbers

abbrev all_read : List ℕ → ℕ → Read
all_read xs n = record { ok = true; values = xs; size = n }

spaced_back : (f x : ℕ) (z : List ℕ) → x ≤ top_of f → Stop z → spaced_in f ((space ++ numeral_of f x) ++ z) ≡ numeral x (length (numeral_of f x))
unfolding spaced_in pick
spaced_back f x z h s = numeral_back f x z h s

-- what follows a name or a number begins with a space or ends the line
pub follows : (fs xs r : List ℕ) → Stop (numerals_of fs xs ++ (10 ∷ r)) × (breaks (get_or (numerals_of fs xs ++ (10 ∷ r)) 0 0) ≡ true)
unfolding numerals_of
follows [] xs r = (refl, refl)
follows (f ∷ fs) xs r = (refl, refl)

past_spaced : (f x : ℕ) (z : List ℕ) → drop (length (numeral_of f x) + 1) ((space ++ numeral_of f x) ++ z) ≡ z
past_spaced f x z =
    let l : length (numeral_of f x) + 1 ≡ length (space ++ numeral_of f x) = omega arith in
    ap (λ (n : ℕ). drop n ((space ++ numeral_of f x) ++ z)) l ∙ drop-append_seam (space ++ numeral_of f x) z

read_back : (fs xs r : List ℕ) → Tops fs xs → read_in fs (numerals_of fs xs ++ (10 ∷ r)) ≡ all_read xs (length (numerals_of fs xs))
unfolding read_in numerals_of
read_back [] [] r h = refl
read_back [] (x ∷ xs) r h = absurd h
read_back (f ∷ fs) [] r h = absurd h
read_back (f ∷ fs) (x ∷ xs) r h =
    let w = space ++ numeral_of f x in
    let z = numerals_of fs xs ++ (10 ∷ r) in
    let a : spaced_in f (w ++ z) ≡ numeral x (length (numeral_of f x)) = spaced_back f x z h.0 (follows fs xs r).0 in
    let i = read_back fs xs r h.1 in
    let n : length (numeral_of f x) + 1 + length (numerals_of fs xs) ≡ length (w ++ numerals_of fs xs) = omega (arith, length-append w (numerals_of fs xs)) in
    rw (append_assoc w (numerals_of fs xs) (10 ∷ r), a, past_spaced f x z, i) (pick_on _ _ refl ∙ ap (λ (k : ℕ). all_read (x ∷ xs) k) n)

-- ---- the line

pub line_parts : (e : ℕ) (x : ℕ × List ℕ) (r : List ℕ) → line_of e x ++ r ≡ word_of x.0 ++ (numerals_of (fields_for e x.0) x.1 ++ (10 ∷ r))
unfolding line_of
line_parts e x r =
    let w = word_of x.0 in
    let m = numerals_of (fields_for e x.0) x.1 in
    append_assoc w (m ++ newline) r ∙ ap (λ (l : List ℕ). w ++ l) (append_assoc m newline r)

module _ (e from past : ℕ) (x : ℕ × List ℕ) (found : Found from past x.0) (named : 0 < x.0) (range : Tops (fields_for e x.0) x.1) where
  line_in_lem : (r : List ℕ) (at : ℕ) → line_in e from past (word_of x.0 ++ (numerals_of (fields_for e x.0) x.1 ++ (10 ∷ r))) at ≡ item x (at + (length (word_of x.0) + length (numerals_of (fields_for e x.0) x.1) + 1))
  unfolding line_in
  line_in_lem r at =
      let t = x.0 in
      let w = word_of t in
      let m = numerals_of (fields_for e t) x.1 in
      let u = w ++ (m ++ (10 ∷ r)) in
      let n : numbers_there e t u at ≡ all_read x.1 (length m) = ap (read_in (fields_for e t)) (drop-append_seam w (m ++ (10 ∷ r))) ∙ read_back (fields_for e t) x.1 r range in
      let z : get_or u (length w + length m) 0 ≡ 10 = get_or-append-add w (m ++ (10 ∷ r)) (length m) 0 ∙ get_or-append_seam m 10 r 0 in
      let q = lined e t u at (λ k. omega arith) (ap (λ (y : Read). y.ok) n) (ap (λ (y : Read). get_or u (length w + y.size) 0) n ∙ z) in
      ap (λ (k : ℕ). line_by e k u at) (found (m ++ (10 ∷ r)) (follows (fields_for e t) x.1 r).1) ∙ sym q ∙ ap (λ (y : Read). item (t, y.values) (at + (length w + y.size + 1))) n

  pub line_back : (p r : List ℕ) → line_at e from past (p ++ (line_of e x ++ r)) (length p) ≡ item x (length p + length (line_of e x))
  unfolding line_of
  line_back p r =
      let w = word_of x.0 in
      let m = numerals_of (fields_for e x.0) x.1 in
      let s = p ++ (line_of e x ++ r) in
      let l : length (line_of e x) ≡ length w + length m + 1 = length-append w (m ++ newline) ∙ omega (arith, length-append m newline) in
      let h : length p < length s = omega (arith, length-append p (line_of e x ++ r), length-append (line_of e x) r) in
      at_line e from past s (length p) h ∙ ap (λ (t : List ℕ). line_in e from past t (length p)) (drop-append_seam p (line_of e x ++ r) ∙ line_parts e x r) ∙ line_in_lem r (length p) ∙ ap (λ (n : ℕ). item x (length p + n)) (sym l)

pub line_writes : (e : ℕ) → Writes (line_of e) (command_at e) (Good e)
line_writes e = record { ahead = onward e 0x21 0x57; back = λ x p r g. line_back e 0x21 0x57 x (command_found x.0 g.0) (is_tag commands x.0 refl g.0) g.1 p r; over = at-end e 0x21 0x57 }
