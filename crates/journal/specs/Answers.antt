-- What the answers stand for: document 01's number and values for each case.
use Rattle.std.specs.Prelude.{ℕ, Result, Ok, Err}
use Rattle.refusal.specs.declared.Refusal.{Refusal}
use Rattle.refusal.specs.Refusal.{number, journal_malformed}
use Rattle.command.specs.declared.Command.{Command}
use Rattle.journal.specs.declared.Opened.{Opened}
use Rattle.journal.specs.declared.Decoded.{Decoded}
use Rattle.journal.specs.declared.Decoded.TheVariants.{Command as Read, Malformed, End}

-- what a header gives: 0, the edition and the first record's offset; or 13, no edition and the fault's offset
pub record Opening : Type 0 where
  pub answer : ℕ
  pub edition : ℕ
  pub first : ℕ

abbrev pub good_header : ℕ → ℕ → Opening
good_header e at = record { answer = 0; edition = e; first = at }

abbrev pub bad_header : ℕ → Opening
bad_header at = record { answer = number journal_malformed; edition = 0; first = at }

abbrev pub opening : Result Opened ℕ → Opening
opening (Ok h) = good_header h.edition h.first
opening (Err at) = bad_header at

-- a command and the offset past it; a refusal's number and its offset; or the end
pub data Reading : Type 0 where
  found : Command → ℕ → Reading
  refused : ℕ → ℕ → Reading
  ended : Reading

abbrev pub malformed : ℕ → Reading
malformed at = refused (number journal_malformed) at

abbrev pub reading : Decoded → Reading
reading (Read c next) = found c next
reading (Malformed at) = malformed at
reading End = ended

-- a number and how many bytes were written
abbrev pub written : Result ℕ Refusal → ℕ × ℕ
written (Ok n) = (0, n)
written (Err r) = (number r, 0)
