use Rattle.std.proofs.Common.{refl, [], ◌∷◌}
use Rattle.rescue.proofs.Sweeping.{no_more, one_more, one_set}
use Rattle.rescue.proofs.note.Goals as goal

pub returns-then-good : goal.returns-then-good
returns-then-good c = let a = c.args in no_more a.report.now a.k (a.at ∷ []) c.if-good.true

pub returns : goal.returns
returns c = let a = c.args in one_more a.report.now a.k (a.at ∷ []) c.if-good.false refl (one_set a.report.now a.k a.at (c.requires c.if-good.false))
