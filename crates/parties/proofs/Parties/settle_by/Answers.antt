use Rattle.std.proofs.Common.{rules}
use Rattle.parties.proofs.Settling.{first_settles, second_settles}
use Rattle.parties.proofs.Parties.settle_by.Goals as goal

pub returns-then-lends : goal.returns-then-lends
returns-then-lends c = first_settles c.args.t c.args.lends (search rules) (search rules)

pub returns : goal.returns
returns c = second_settles c.args.t c.args.lends (search rules) (search rules)
