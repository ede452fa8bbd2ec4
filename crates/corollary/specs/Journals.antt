-- The commands that a journal holds for a book of an edition, and the journal of commands in an edition: its header, then the record of each.
use Rattle.std.specs.Prelude.{List, [], ◌∷◌, ◌++◌, ℕ, zero, suc, ◌+◌, length}
use Rattle.refusal.specs.Choice.{pick}
use Rattle.command.specs.declared.Command.{Command}
use Rattle.journal.specs.Answers.{Reading, found, refused, ended}
use Rattle.journal.specs.Format.{header_of, opening_of, read_at, bytes_for}
use Rattle.journal.specs.Held.{Held}
use Rattle.replay.specs.Replay.{headed, edition_of}

-- those up to the end, or up to a malformed record; at most n, in an edition
abbrev pub taking : (ℕ → List Command) → Reading → List Command
taking rest (found c next) = c ∷ rest next
taking rest (refused n at) = []
taking rest ended = []

unfoldable pub commands_by : ℕ → ℕ → List ℕ → ℕ → List Command
commands_by e zero s at = []
commands_by e (suc n) s at = taking (commands_by e n s) (read_at e s at)

-- none where its header is bad or names another edition
unfoldable pub commands_on : ℕ → List ℕ → List Command
commands_on e s = pick (headed e s) (commands_by e (length s) s (opening_of s).first) []

-- those for a fresh book of the journal's edition
abbrev pub commands_in : List ℕ → List Command
commands_in s = commands_on (edition_of s) s

-- the journal of commands
unfoldable pub records_of : ℕ → List Command → List ℕ
records_of e [] = []
records_of e (c ∷ cs) = bytes_for e c ++ records_of e cs

unfoldable pub journal_of : ℕ → List Command → List ℕ
journal_of e cs = header_of e ++ records_of e cs

-- each of them fits its type, as every command of the code does, and has no number that the edition's records lack
unfoldable pub AllHeld : ℕ → List Command → Type 0
AllHeld e [] = Unit {0}
AllHeld e (c ∷ cs) = Held e c × AllHeld e cs
