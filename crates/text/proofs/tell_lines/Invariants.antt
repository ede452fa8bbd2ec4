-- The records so far are written, and those of what is still to come complete them.
use Rattle.std.proofs.Common.{ℕ, ◌≡◌, ◌+◌, ◌≤◌, length, ◌-◌}
use Rattle.text.specs.Reading.{command_at}
use Rattle.text.specs.Journal.{lines_in, record_for}
use Rattle.text.specs.Telling.{Telling}
use Rattle.text.proofs.tell_lines.Given as goal

abbrev pub invariant-loop-at : goal.invariant-loop-at
invariant-loop-at l =
    (l.at ≤ length l.s) × ((l.k ≤ l.at) × ((j : ℕ) × ((l.k ≡ l.initial.k + j) × Telling l.ink (length l.s) (command_at l.edition l.s) (record_for l.edition) (lines_in l.s) l.initial.out l.initial.pen l.at j l.out l.pen)))

abbrev pub decreases-loop-at : goal.decreases-loop-at
decreases-loop-at l = length l.s - l.at
