-- What line stands at a place of a text of an edition, of a tag in a range: the commands' or the questions'. A line reads as a command or a question where
-- it is the line of that one, byte for byte.
use Rattle.std.specs.Prelude.{Bool, true, false, ◌&&◌, ◌||◌, List, [], ◌∷◌, ℕ, zero, suc, ◌+◌, ◌-◌, ◌*◌, length, get_or, drop, eqb, leb, ltb}
use Rattle.refusal.specs.Choice.{pick}
use Rattle.edition.specs.Edition.{first_edition}
use Rattle.journal.specs.Table.{top_of, padded}
use Rattle.text.specs.Names.{word_of}
use Rattle.text.specs.Fields.{fields_for}
use Rattle.text.specs.Line.{is_signed}
use Rattle.text.specs.Walk.{Item, item, fault, end}
use Rattle.text.specs.declared.reading.Numeral.{Numeral}
use Rattle.text.specs.declared.reading.Numbers.{Numbers}
use Rattle.text.specs.declared.reading.Line.{Line}

-- t begins with w
unfoldable pub leads : List ℕ → List ℕ → Bool
leads [] t = true
leads (x ∷ w) [] = false
leads (x ∷ w) (y ∷ t) = eqb y x && leads w t

-- t begins with the name of the tag k; and the first tag, of the n from k on, whose name t begins with, or 0
unfoldable pub is_named : ℕ → List ℕ → Bool
is_named k t = ltb 0 (length (word_of k)) && leads (word_of k) t

unfoldable pub tag_by : ℕ → ℕ → List ℕ → ℕ
tag_by zero k t = 0
tag_by (suc n) k t = pick (is_named k t) k (tag_by n (k + 1) t)

-- from a first tag to below another
unfoldable pub tag_in : ℕ → ℕ → List ℕ → ℕ
tag_in from past t = tag_by (past - from) from t

-- the digits that t begins with, and the number that its first n digits are
abbrev pub is_digit : ℕ → Bool
is_digit b = leb 48 b && leb b 57

unfoldable pub digits_in : List ℕ → ℕ
digits_in [] = 0
digits_in (b ∷ t) = pick (is_digit b) (suc (digits_in t)) 0

unfoldable pub value_in : List ℕ → ℕ → ℕ
value_in t zero = 0
value_in t (suc n) = value_in t n * 10 + (get_or t n 0 - 48)

-- a number, and how many bytes it takes
abbrev pub numeral : ℕ → ℕ → Numeral
numeral v n = record { ok = true; value = v; size = n }

abbrev pub no_numeral : Numeral
no_numeral = record { ok = false; value = 0; size = 0 }

-- a number of n digits, of which the first is b, up to a largest: no zero stands before other digits
abbrev pub is_plain : ℕ → ℕ → Bool
is_plain n b = ltb 0 n && (leb n 1 || ltb 48 b)

unfoldable pub checked : ℕ → ℕ → ℕ → ℕ → Numeral
checked top n b v = pick (is_plain n b && leb v top) (numeral v n) no_numeral

unfoldable pub natural_in : ℕ → List ℕ → Numeral
natural_in top t = checked top (digits_in t) (get_or t 0 0) (value_in t (digits_in t))

-- a minus and a number from 1 to 2^63, or a number below 2^63
unfoldable pub negated : Numeral → Numeral
negated x = pick (x.ok && ltb 0 x.value) (numeral (18446744073709551616 - x.value) (x.size + 1)) no_numeral

unfoldable pub signed_in : List ℕ → Numeral
signed_in t = pick (eqb (get_or t 0 0) 45) (negated (natural_in 9223372036854775808 (drop 1 t))) (natural_in 9223372036854775807 t)

unfoldable pub numeral_in : ℕ → List ℕ → Numeral
numeral_in f t = pick (is_signed f) (signed_in t) (natural_in (top_of f) t)

-- the numbers of fields, with a space before each, and how many bytes they take
pub record Read : Type 0 where
  pub ok : Bool
  pub values : List ℕ
  pub size : ℕ

abbrev pub unread : Read
unread = record { ok = false; values = []; size = 0 }

abbrev pub joined : Numeral → Read → Read
joined x r = record { ok = true; values = x.value ∷ r.values; size = x.size + 1 + r.size }

unfoldable pub spaced_in : ℕ → List ℕ → Numeral
spaced_in f t = pick (eqb (get_or t 0 0) 32) (numeral_in f (drop 1 t)) no_numeral

unfoldable pub read_in : List ℕ → List ℕ → Read
read_in [] t = record { ok = true; values = []; size = 0 }
read_in (f ∷ fs) t = pick ((spaced_in f t).ok && (read_in fs (drop ((spaced_in f t).size + 1) t)).ok) (joined (spaced_in f t) (read_in fs (drop ((spaced_in f t).size + 1) t))) unread

-- a name, its fields' numbers and the end of the line
abbrev pub closed : ℕ → ℕ → Read → List ℕ → ℕ → Item
closed k n r t at = pick (ltb 0 k && (r.ok && eqb (get_or t (n + r.size) 0) 10)) (item (k, r.values) (at + (n + r.size + 1))) fault

unfoldable pub line_by : ℕ → ℕ → List ℕ → ℕ → Item
line_by e k t at = closed k (length (word_of k)) (read_in (fields_for e k) (drop (length (word_of k)) t)) t at

unfoldable pub line_in : ℕ → ℕ → ℕ → List ℕ → ℕ → Item
line_in e from past t at = line_by e (tag_in from past t) t at

unfoldable pub line_at : ℕ → ℕ → ℕ → List ℕ → ℕ → Item
line_at e from past t at = pick (leb (length t) at) end (line_in e from past (drop at t) at)

-- the tags of commands, and those of questions, whose lines are the same in every edition
abbrev pub command_at : ℕ → List ℕ → ℕ → Item
command_at e t at = line_at e 0x21 0x57 t at

abbrev pub question_at : List ℕ → ℕ → Item
question_at t at = line_at first_edition 0x61 0x80 t at

-- as the code has them
abbrev pub numbers_for : ℕ → Read → Numbers
numbers_for at r = record { ok = r.ok; values = padded r.values; next = at + r.size }

abbrev pub line_for : Item → Line
line_for (item x next) = record { ok = true; tag = x.0; values = padded x.1; next = next }
line_for fault = record { ok = false; tag = 0; values = padded []; next = 0 }
line_for end = record { ok = false; tag = 0; values = padded []; next = 0 }
