use Rattle.std.proofs.Common.{take}
use Rattle.lists.specs.Taking.{spread}
use Rattle.sheet.specs.Sheet.{Wrote}
use Rattle.asking.specs.Answers.{round_line}
use Rattle.asking.proofs.rows.put_rounds.Given as goal

abbrev pub invariant-loop-i : goal.invariant-loop-i
invariant-loop-i l = Wrote l.ink (spread round_line (take l.i l.g.rounds)) l.initial.out l.initial.p l.out l.p
