-- The lines so far are written, and those of what is still to come complete them.
use Rattle.std.proofs.Common.{ℕ, length, ◌-◌}
use Rattle.journal.specs.Format.{read_at}
use Rattle.text.specs.Line.{line_of}
use Rattle.text.specs.Telling.{Telling}
use Rattle.text.specs.Text.{item_of, records_of}
use Rattle.text.proofs.tell.Given as goal

abbrev pub invariant-loop-c : goal.invariant-loop-c
invariant-loop-c l =
    (k : ℕ) × Telling l.ink (length l.s) (λ (p : ℕ). item_of l.edition (read_at l.edition l.s p)) (line_of l.edition) (records_of l.s) l.initial.out l.initial.pen l.at k l.out l.pen

abbrev pub decreases-loop-c : goal.decreases-loop-c
decreases-loop-c l = length l.s - l.at
