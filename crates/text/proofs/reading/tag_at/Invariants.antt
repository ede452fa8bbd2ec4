-- The name of no tag so far stands there.
use Rattle.std.proofs.Common.{◌≡◌, ◌-◌, drop}
use Rattle.text.specs.Reading.{tag_in, tag_by}
use Rattle.text.proofs.reading.tag_at.Given as goal

abbrev pub invariant-loop-k : goal.invariant-loop-k
invariant-loop-k l = tag_in l.first l.past (drop l.at l.s) ≡ tag_by (l.past - l.k) l.k (drop l.at l.s)
