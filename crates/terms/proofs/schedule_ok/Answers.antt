use Rattle.std.proofs.Common.{sym, ◌∙◌}
use Rattle.terms.specs.Laws.{count_in_lem}
use Rattle.terms.proofs.schedule_ok.Goals as goal

pub keeps_ok-requires : goal.keeps_ok-requires
keeps_ok-requires c = count_in_lem c.args.s (sym c.schedule_in.ensures ∙ c.if-schedule_in.true)
