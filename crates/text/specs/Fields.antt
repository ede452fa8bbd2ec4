-- The fields whose numbers follow a name in a line, by the journal's tags for them: for a command those of its record in an edition.
use Rattle.std.specs.Prelude.{Bool, ◌&&◌, ◌||◌, List, [], ◌∷◌, ℕ, eqb, leb}
use Rattle.refusal.specs.Choice.{pick}
use Rattle.journal.specs.Table.{fields_of}
use Rattle.text.specs.Names.{is_command}

-- 76 and 77 ask about a time too; 66 has two numbers, where a page begins and how long it is; 65 and 78 to 7D ask about no id
abbrev pub is_timed : ℕ → Bool
is_timed t = eqb t 0x76 || eqb t 0x77

abbrev pub is_bare : ℕ → Bool
is_bare t = eqb t 0x65 || (leb 0x78 t && leb t 0x7D)

-- the fields of a question: 03 is an id, 01 a time. The edition's line has one number too
unfoldable pub asked_of : ℕ → List ℕ
asked_of t = pick (is_timed t) (0x03 ∷ 0x01 ∷ []) (pick (eqb t 0x66) (0x03 ∷ 0x03 ∷ []) (pick (is_bare t) [] (0x03 ∷ [])))

unfoldable pub fields_for : ℕ → ℕ → List ℕ
fields_for e t = pick (is_command t) (fields_of e t) (asked_of t)
