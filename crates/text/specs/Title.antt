-- The edition of a text. Its first line has the tag 10, as a journal's first field has, and names an edition past the first; a text of the
-- first edition has no such line.
use Rattle.std.specs.Prelude.{Bool, ◌&&◌, List, [], ◌∷◌, ℕ, ltb, get_or}
use Rattle.refusal.specs.Choice.{pick}
use Rattle.edition.specs.Edition.{first_edition, listed}
use Rattle.text.specs.Line.{line_of}
use Rattle.text.specs.Walk.{Item, item, fault, end}
use Rattle.text.specs.Reading.{line_at}
use Rattle.text.specs.declared.reading.Title.{Title}

-- an edition past the first
abbrev pub is_later : ℕ → Bool
is_later e = ltb first_edition e && listed e

-- the line of an edition
unfoldable pub title_of : ℕ → List ℕ
title_of e = pick (is_later e) (line_of first_edition (0x10, e ∷ [])) []

-- an edition, how many lines name it, and the place past them
abbrev pub title : ℕ → ℕ → Title
title e next = record { edition = e; lines = 1; next = next }

abbrev pub untitled : Title
untitled = record { edition = first_edition; lines = 0; next = 0 }

unfoldable pub titled : ℕ → ℕ → Title
titled e next = pick (is_later e) (title e next) untitled

-- by what stands there, read as a line of tag 10
abbrev pub title_by : Item → Title
title_by (item x next) = titled (get_or x.1 0 0) next
title_by fault = untitled
title_by end = untitled

unfoldable pub title_in : List ℕ → Title
title_in t = title_by (line_at first_edition 0x10 0x11 t 0)
