-- A command of an edition, or a question, as a line: its name, and the numbers of its fields in order with a space before each, to the end of the line.
use Rattle.std.specs.Prelude.{Bool, ◌||◌, List, [], ◌∷◌, ◌++◌, ℕ, ◌-◌, get_or, drop, eqb, ltb}
use Rattle.refusal.specs.Choice.{pick}
use Rattle.sheet.specs.Decimal.{decimal_of, space, newline}
use Rattle.text.specs.Names.{word_of}
use Rattle.text.specs.Fields.{fields_for}

-- 05 amount and 0F fee are two's complement: 45 is a minus
abbrev pub is_signed : ℕ → Bool
is_signed f = eqb f 0x05 || eqb f 0x0F

abbrev pub minus : List ℕ
minus = 45 ∷ []

unfoldable pub signed_of : ℕ → List ℕ
signed_of x = pick (ltb x 9223372036854775808) (decimal_of x) (minus ++ decimal_of (18446744073709551616 - x))

-- the number x of a field f
unfoldable pub numeral_of : ℕ → ℕ → List ℕ
numeral_of f x = pick (is_signed f) (signed_of x) (decimal_of x)

unfoldable pub numerals_of : List ℕ → List ℕ → List ℕ
numerals_of [] xs = []
numerals_of (f ∷ fs) xs = (space ++ numeral_of f (get_or xs 0 0)) ++ numerals_of fs (drop 1 xs)

-- the line of a tag and its numbers
unfoldable pub line_of : ℕ → ℕ × List ℕ → List ℕ
line_of e p = word_of p.0 ++ (numerals_of (fields_for e p.0) p.1 ++ newline)
