use Rattle.std.proofs.Common.{arith, sym, ap, ◌∙◌}
use Rattle.table.proofs.SpotLaws.{spot_below, spot_found}
use Rattle.account.specs.Seen.{seen_account}
use Rattle.shelves.proofs.Accounts.see_at.Goals as goal

pub offset_bounds-self-spot : goal.offset_bounds-self-spot
offset_bounds-self-spot c = let b = spot_below c.requires.shelf (omega arith) c.args.key c.requires.found in omega (arith, b)

pub bounds-self-spot : goal.bounds-self-spot
bounds-self-spot c = spot_below c.requires.shelf (omega arith) c.args.key c.requires.found

pub returns : goal.returns
returns c = c.at.ensures ∙ ap seen_account (sym (spot_found c.requires.shelf (omega arith) c.args.key c.requires.found))
