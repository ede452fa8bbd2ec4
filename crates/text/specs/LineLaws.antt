-- How a line is written, number by number. Assumes nothing.
use Rattle.std.specs.Prelude.{◌≡◌, refl, Bool, true, false, ◌&&◌, ℕ, zero, suc, ◌+◌, ◌-◌, ◌≤◌, ◌<◌, length, drop, replicate, eqb, leb}
use Rattle.std.proofs.Common.{sym, ◌∙◌, arith, add-zero, drop-cons, leb-true}
use Rattle.std.proofs.Math.Path.{ap}
use mathlib.Core.List.{List, [], ◌∷◌, ◌++◌}
use Rattle.std.proofs.Math.Numerals.{add-one}
use Rattle.std.proofs.Math.ListN.{get_or}
use Rattle.std.proofs.Math.Seq.{drop-drop, drop-length, get_or-drop}
use Rattle.refusal.specs.Choice.{pick}
use Rattle.wire.specs.FieldLaws.{and_left, and_right}
use Rattle.sheet.specs.declared.Pen.{Pen}
use Rattle.sheet.specs.Sheet.{Wrote}
use Rattle.sheet.specs.SheetLaws.{next, retext, none, kept}
use Rattle.sheet.specs.Decimal.{space, newline}
use Rattle.journal.specs.Table.{padded, sent}
use Rattle.text.specs.Names.{Name, commands, others, word_in, word_of, is_command}
use Rattle.text.specs.Fields.{fields_for}
use Rattle.text.specs.Line.{numeral_of, numerals_of, line_of}

-- the first i numbers are written; the others complete them
pub record Numbering (ink : Bool) (fs xs from : List ℕ) (start : Pen) (i : ℕ) (out : List ℕ) (pen : Pen) : Type 0 where
  pub long : length out ≡ length from
  pub completes : (l : List ℕ) (q : Pen) → Wrote ink (numerals_of (drop i fs) (drop i xs)) out pen l q → Wrote ink (numerals_of fs xs) from start l q

module _ {ink : Bool} {fs xs from : List ℕ} {start : Pen} where
  pub no_number : Numbering ink fs xs from start 0 from start
  no_number = record { long = refl; completes = λ l q w. w }

  pub one_number : {i : ℕ} {out l : List ℕ} {pen p : Pen} → i < length fs → Numbering ink fs xs from start i out pen
      → Wrote ink (space ++ numeral_of (get_or fs i 0) (get_or xs i 0)) out pen l p → Numbering ink fs xs from start (i + 1) l p
  unfolding numerals_of
  one_number {i} h n w =
      let x : get_or (drop i xs) 0 0 ≡ get_or xs i 0 = get_or-drop i xs 0 0 ∙ ap (λ (k : ℕ). get_or xs k 0) (add-zero i) in
      let e : numerals_of (drop i fs) (drop i xs) ≡ (space ++ numeral_of (get_or fs i 0) (get_or xs i 0)) ++ numerals_of (drop (i + 1) fs) (drop (i + 1) xs) =
      rw (drop-cons fs i 0 h, x, drop-drop 1 i xs, add-one i) in
      record { long = kept w ∙ n.long; completes = λ m q y. n.completes m q (retext (next w y) (sym e)) }

  pub all_numbers : {i : ℕ} {out : List ℕ} {pen : Pen} → i ≡ length fs → Numbering ink fs xs from start i out pen → Wrote ink (numerals_of fs xs) from start out pen
  unfolding numerals_of
  all_numbers {i} {out} {pen} e n =
      let d : numerals_of (drop i fs) (drop i xs) ≡ [] = rw (e, drop-length fs) in
      n.completes out pen (retext (none ink out pen) (sym d))

-- no name is longer than an array of eighteen
abbrev all_short : List Name → Bool
all_short [] = true
all_short (n ∷ ns) = leb (length n.word) 18 && all_short ns

short_pick : (b : Bool) (v w : List ℕ) → length v ≤ 18 → length w ≤ 18 → length (pick b v w) ≤ 18
unfolding pick
short_pick true v w h k = h
short_pick false v w h k = k

short_in : (ns : List Name) (t : ℕ) → all_short ns ≡ true → length (word_in ns t) ≤ 18
unfolding word_in
short_in [] t e = omega arith
short_in (n ∷ ns) t e =
    short_pick (eqb t n.tag) n.word (word_in ns t) (leb-true (length n.word) 18 (and_left _ (all_short ns) e)) (short_in ns t (and_right (leb (length n.word) 18) _ e))

pub word_short : (t : ℕ) → length (word_of t) ≤ 18
unfolding word_of
word_short t = short_pick (is_command t) (word_in commands t) (word_in others t) (short_in commands t refl) (short_in others t refl)

-- numbers in an array
numerals_zeros : (fs xs : List ℕ) (n : ℕ) → numerals_of fs (xs ++ replicate n 0) ≡ numerals_of fs xs
unfolding numerals_of
numerals_zeros [] xs n = refl
numerals_zeros (f ∷ fs) [] zero = refl
numerals_zeros (f ∷ fs) [] (suc n) = ap (λ (l : List ℕ). (space ++ numeral_of f 0) ++ l) (numerals_zeros fs [] n)
numerals_zeros (f ∷ fs) (x ∷ xs) n = ap (λ (l : List ℕ). (space ++ numeral_of f x) ++ l) (numerals_zeros fs xs n)

pub line_sent : (e : ℕ) {p : ℕ × List ℕ} (x : ℕ × List ℕ) → p ≡ sent x → line_of e (p.0, p.1) ≡ line_of e x
unfolding line_of padded
line_sent e x q = ap (λ (p : ℕ × List ℕ). line_of e (p.0, p.1)) q ∙ ap (λ (l : List ℕ). word_of x.0 ++ (l ++ newline)) (numerals_zeros (fields_for e x.0) x.1 (9 - length x.1))
