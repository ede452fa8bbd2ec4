use Rattle.codec.specs.Cursors.{count_past, count_in_lem}
use Rattle.codec.proofs.count.Goals as goal

pub returns-then-most-k : goal.returns-then-most-k
returns-then-most-k c = count_past _ _ _ _ _ c.next-k.ensures c.if-most-k.true

pub returns : goal.returns
returns c = count_in_lem _ _ _ _ _ c.next-k.ensures c.if-most-k.false
