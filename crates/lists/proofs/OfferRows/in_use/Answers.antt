use Rattle.std.proofs.Common.{rules}
use Rattle.lists.specs.Rows.{use_least}
use Rattle.lists.proofs.OfferRows.in_use.Goals as goal

pub returns : goal.returns
returns c = use_least c.args.self (search rules) (search rules) c.min.ensures
