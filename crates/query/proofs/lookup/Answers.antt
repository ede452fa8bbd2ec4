use Rattle.std.proofs.Common.{refl}
use Rattle.book.specs.Stored.{model_of}
use Rattle.query.specs.Held.{count_held}
use Rattle.query.proofs.lookup.Goals as goal

pub returns : goal.returns
returns c = c.answer.ensures (model_of c.args.book) (record {
  deal_seen = c.see-deal.ensures;
  account_seen = c.see-account.ensures;
  totals_seen = refl;
  settings_seen = refl;
  counted = count_held c.requires;
})
