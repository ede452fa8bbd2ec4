-- The commands that a journal of an edition holds.
use Rattle.std.specs.Prelude.{◌≡◌, true, false, List, [], ◌∷◌, ℕ, get_or, drop, set}
use mir.Val.{Val}
use denote.Laws.{Is}
use denote.Enum.Declared.{row, variants}
use denote.Enum.Laws.{Fields, spellss, owed}
use Rattle.edition.specs.Edition.{keeps_terms}
use Rattle.command.specs.declared.Command.{Command}
use Rattle.command.specs.contracts.Command as type
use Rattle.command.proofs.Command.TheLaws as laws
use Rattle.journal.specs.declared.reading.Values.{Values}
use Rattle.journal.specs.Table.{named, rows_in, fields_in, parts_in}
use Rattle.journal.specs.Format.{zeros}

-- each field is in the range of its type: a u64 is below 2^64, a u32 below 2^32, an i64 has 64 bits
unfoldable pub InTypes : Command → Type 0
InTypes c = Fields (variants type.the_type) (spellss (type.the_type).parts laws.the_laws) ((type.the_type).to c)

-- numbers in the order of their fields, each at the place of its tag
unfoldable pub by_tag : List ℕ → List ℕ → List ℕ → List ℕ
by_tag v [] xs = v
by_tag v (f ∷ fs) xs = by_tag (set v f (get_or xs 0 0)) fs (drop 1 xs)

-- its numbers by the names of their fields, of a record that has them all; 0 for a field that no record of the command has
abbrev pub values_of : Command → Values
values_of c = named (by_tag zeros (fields_in (rows_in true) (parts_in true c).0) (parts_in true c).1)

-- and what the edition's records lack is 0
unfoldable pub Held : ℕ → Command → Type 0
Held e c = InTypes c × (keeps_terms e ≡ false → (values_of c).kind ≡ 0)

-- each field of every command in the code is in its range: what a function is handed of its argument c is `Is (row type.the_type) c vs`
pub in_types : (c : Command) (vs : List Val) → Is (row type.the_type) c vs → InTypes c
unfolding InTypes
in_types c vs p = owed type.the_type laws.the_laws c vs p
