use Rattle.std.proofs.Common.{rules}
use Rattle.table.specs.Padded.{padded}
use Rattle.shelves.proofs.Accounts.none.Goals as goal

pub returns : goal.returns
unfolding padded
returns c = rw c.none.ensures
