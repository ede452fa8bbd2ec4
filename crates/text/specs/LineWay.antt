-- The line that stands at a place is what writing its command gives. Assumes nothing.
use Rattle.std.specs.Prelude.{◌≡◌, refl, Bool, true, false, ◌&&◌, List, [], ◌∷◌, ◌++◌, ℕ, ◌+◌, ◌-◌, ◌≤◌, ◌<◌, length, get_or, take, drop, eqb, leb, ltb}
use Rattle.std.proofs.Common.{sym, ap, ◌∙◌, arith, add-zero, length-drop, take-add, take-suc, drop-drop, get_or-drop, length-take-le, eqb-true, ltb-true, le-leb, lt-ltb}
use Rattle.refusal.specs.Choice.{pick}
use Rattle.wire.specs.FieldLaws.{and_left, and_right}
use Rattle.sheet.specs.Decimal.{newline}
use Rattle.journal.specs.HeldLaws.{Tops}
use Rattle.text.specs.Names.{commands, word_in, word_of}
use Rattle.text.specs.NameLaws.{command_word}
use Rattle.text.specs.Fields.{fields_for}
use Rattle.text.specs.Line.{numerals_of, line_of}
use Rattle.text.specs.Walk.{Item, item, fault, end}
use Rattle.text.specs.Reading.{tag_in, Read, read_in, line_by, line_in, line_at, command_at}
use Rattle.text.specs.ReadingLaws.{there, tag_among}
use Rattle.text.specs.LineWalk.{onward}
use Rattle.text.specs.Canonical.{leads_take, read_spelt}
use Rattle.text.specs.Trip.{Stands, Reads}

-- a command's tag has a name, and its numbers are in range
abbrev pub Good : ℕ → ℕ × List ℕ → Type 0
Good e x = (0 < length (word_in commands x.0)) × Tops (fields_for e x.0) x.1

-- so has a line of any range of tags
pub record Ranged (e from past : ℕ) (x : ℕ × List ℕ) : Type 0 where
  pub low : from ≤ x.0
  pub high : x.0 < from + (past - from)
  pub word : 0 < length (word_of x.0)
  pub range : Tops (fields_for e x.0) x.1

-- what an item holds
abbrev pub parts_in : Item → ℕ × List ℕ
parts_in (item x n) = x
parts_in fault = (0, [])
parts_in end = (0, [])

abbrev pub past_in : Item → ℕ
past_in (item x n) = n
past_in fault = 0
past_in end = 0

abbrev pub is_item : Item → Bool
is_item (item x n) = true
is_item fault = false
is_item end = false

-- the three parts of a line, one after the other
three : (a b t : List ℕ) (n : ℕ) → take (length a) t ≡ a → take n (drop (length a) t) ≡ b → get_or t (length a + n) 0 ≡ 10
    → (take (length a + n + 1) t ≡ a ++ (b ++ newline)) × (length a + n + 1 ≡ length (a ++ (b ++ newline)))
three a b t n e f g =
    let l : length a + n < length t = there t (length a + n) g (omega arith) in
    let m : length a + n + 1 ≡ length a + (n + 1) = omega arith in
    let h : get_or (drop n (drop (length a) t)) 0 0 ≡ 10 = ap (λ (d : List ℕ). get_or d 0 0) (drop-drop n (length a) t) ∙ get_or-drop (length a + n) t 0 0 ∙ ap (λ (k : ℕ). get_or t k 0) (add-zero (length a + n)) ∙ g in
    let o : take 1 (drop n (drop (length a) t)) ≡ newline = take-suc (drop n (drop (length a) t)) 0 0 (omega (arith, length-drop n (drop (length a) t), length-drop (length a) t)) ∙ ap (λ (k : ℕ). k ∷ []) h in
    let w : take (length a + n + 1) t ≡ a ++ (b ++ newline) =
    ap (λ (k : ℕ). take k t) m ∙ take-add (length a) (n + 1) t ∙ ap (λ (x : List ℕ). x ++ take (n + 1) (drop (length a) t)) e
    ∙ ap (λ (x : List ℕ). a ++ x) (take-add n 1 (drop (length a) t) ∙ ap (λ (x : List ℕ). x ++ take 1 (drop n (drop (length a) t))) f ∙ ap (λ (x : List ℕ). b ++ x) o) in
    (w, sym (length-take-le (length a + n + 1) t (omega arith)) ∙ ap length w)

line_by_lem : (e from past : ℕ) (s : List ℕ) (p : ℕ) (b : Bool) (k : ℕ) (r : Read) (x : ℕ × List ℕ) (n : ℕ) → k ≡ tag_in from past (drop p s) → r ≡ read_in (fields_for e k) (drop (length (word_of k)) (drop p s))
    → ltb 0 k && (r.ok && eqb (get_or (drop p s) (length (word_of k) + r.size) 0) 10) ≡ b
    → pick b (item (k, r.values) (p + (length (word_of k) + r.size + 1))) fault ≡ item x n → Stands (line_of e) (Ranged e from past) s p x n
unfolding pick line_of
line_by_lem e from past s p true k r x n i j b q =
    let t = drop p s in
    let pos : 0 < k = ltb-true 0 k (and_left (ltb 0 k) _ b) in
    let both = and_right (ltb 0 k) _ b in
    let m = tag_among from past t i pos in
    let v : (take r.size (drop (length (word_of k)) t) ≡ numerals_of (fields_for e k) r.values) × Tops (fields_for e k) r.values =
    rw j (read_spelt (fields_for e k) (drop (length (word_of k)) t) (rw j at (and_left r.ok _ both))) in
    let w = three (word_of k) (numerals_of (fields_for e k) r.values) t r.size (leads_take (word_of k) t m.stands) v.0 (eqb-true _ 10 (and_right r.ok _ both)) in
    let a : (k, r.values) ≡ x = ap parts_in q in
    let c : p + (length (word_of k) + r.size + 1) ≡ n = ap past_in q in
    rw (← a) record {
      past = sym c ∙ ap (λ (z : ℕ). p + z) w.1;
      bytes = ap (λ (z : ℕ). take z t) (sym w.1) ∙ w.0;
      good = record { low = m.low; high = m.high; word = m.word; range = v.1 };
    }
line_by_lem e from past s p false k r x n i j b q = let z = ap is_item q in let y : ◌≡◌ {A = ℕ} 0 1 = cc in absurd (omega arith)

end_not : (b : Bool) (d : Item) (x : ℕ × List ℕ) (n : ℕ) → pick b end d ≡ item x n → d ≡ item x n
unfolding pick
end_not true d x n q = let z = ap is_item q in let y : ◌≡◌ {A = ℕ} 0 1 = cc in absurd (omega arith)
end_not false d x n q = q

pub line_stands : (e from past : ℕ) (s : List ℕ) (p : ℕ) (x : ℕ × List ℕ) (n : ℕ) → line_at e from past s p ≡ item x n → Stands (line_of e) (Ranged e from past) s p x n
unfolding line_at line_in line_by
line_stands e from past s p x n q =
    let t = drop p s in
    let k = tag_in from past t in
    line_by_lem e from past s p _ k (read_in (fields_for e k) (drop (length (word_of k)) t)) x n refl refl refl (end_not (leb (length s) p) (line_in e from past t p) x n q)

-- a command's
command_good : (e : ℕ) (x : ℕ × List ℕ) → Ranged e 0x21 0x57 x → Good e x
command_good e x r =
    let a : leb 0x20 x.0 ≡ true = le-leb 0x20 x.0 (omega (arith, r.low)) in
    let b : ltb x.0 0x60 ≡ true = lt-ltb x.0 0x60 (omega (arith, r.high)) in
    (rw (command_word x.0 (rw (a, b))) at r.word, r.range)

command_stands : (e : ℕ) (s : List ℕ) (p : ℕ) (x : ℕ × List ℕ) (n : ℕ) → command_at e s p ≡ item x n → Stands (line_of e) (Good e) s p x n
command_stands e s p x n q = let w = line_stands e 0x21 0x57 s p x n q in record { past = w.past; bytes = w.bytes; good = command_good e x w.good }

pub line_reads : (e : ℕ) → Reads (line_of e) (command_at e) (Good e) (λ (s : List ℕ). Unit)
line_reads e = record { ahead = onward e 0x21 0x57; stands = λ s p x n k q. command_stands e s p x n q }
