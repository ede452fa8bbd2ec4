use Rattle.std.proofs.Common.{arith}
use Rattle.installments.specs.ArgumentLaws.{falling_in}
use Rattle.terms.proofs.first_of.Goals as goal

pub part_of-requires-clause-amount_bound : goal.part_of-requires-clause-amount_bound
part_of-requires-clause-amount_bound c = let i = falling_in _ _ _ _ _ c.requires in omega arith

pub part_of-requires-clause-rate_bound : goal.part_of-requires-clause-rate_bound
part_of-requires-clause-rate_bound c = let i = falling_in _ _ _ _ _ c.requires in omega arith

pub part_of-requires-clause-count_nonzero : goal.part_of-requires-clause-count_nonzero
part_of-requires-clause-count_nonzero c = let i = falling_in _ _ _ _ _ c.requires in omega arith
