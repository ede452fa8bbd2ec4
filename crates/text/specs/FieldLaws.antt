-- How many fields a line has. Assumes nothing.
use Rattle.std.specs.Prelude.{◌≡◌, true, List, ℕ, ◌≤◌, length, eqb}
use Rattle.std.proofs.Common.{arith}
use Rattle.refusal.specs.ChoiceLaws.{either, pick_on}
use Rattle.journal.specs.Table.{fields_of}
use Rattle.journal.specs.TableLaws.{few}
use Rattle.text.specs.Names.{is_command}
use Rattle.text.specs.Fields.{is_timed, is_bare, asked_of, fields_for}

-- room in an array of nine
abbrev Few : List ℕ → Type 0
Few l = length l ≤ 9

few_asked : (t : ℕ) → Few (asked_of t)
unfolding asked_of
few_asked t = either Few (is_timed t) _ _ (λ e. omega arith) (λ e. either Few (eqb t 0x66) _ _ (λ d. omega arith) (λ d. either Few (is_bare t) _ _ (λ b. omega arith) (λ b. omega arith)))

pub few_fields : (e t : ℕ) → length (fields_for e t) ≤ 9
unfolding fields_for
few_fields e t = either Few (is_command t) (fields_of e t) (asked_of t) (λ b. few e t) (λ b. few_asked t)

-- a command's are its record's
pub command_fields : (e t : ℕ) → is_command t ≡ true → fields_for e t ≡ fields_of e t
unfolding fields_for
command_fields e t b = pick_on _ _ b
