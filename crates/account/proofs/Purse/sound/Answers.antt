use Rattle.std.proofs.Common.{◌≡◌, rules, true, false}
use Rattle.account.specs.Purse.{purse_sound}
use Rattle.account.proofs.Purse.sound.Goals as goal
use Rattle.account.proofs.Purse.sound.Goals.{then-in_total_range, else-in_total_range, then-in_total_range-2, else-in_total_range-2}

pub returns-then-in_total_range-3 : goal.returns-then-in_total_range-3
unfolding purse_sound
returns-then-in_total_range-3 c = elim c.if-in_total_range-2.branch [
  | then-in_total_range-2 w ↦ elim c.if-in_total_range.branch [ then-in_total_range v ↦ search rules | else-in_total_range v ↦ search rules ]
  | else-in_total_range-2 w ↦ search rules
]

pub returns-else-in_total_range-3 : goal.returns-else-in_total_range-3
unfolding purse_sound
returns-else-in_total_range-3 c = elim c.if-in_total_range-2.branch [
  | then-in_total_range-2 w ↦ elim c.if-in_total_range.branch [ then-in_total_range v ↦ search rules | else-in_total_range v ↦ search rules ]
  | else-in_total_range-2 w ↦ elim c.if-in_total_range.branch [ then-in_total_range v ↦ search rules | else-in_total_range v ↦ search rules ]
]
