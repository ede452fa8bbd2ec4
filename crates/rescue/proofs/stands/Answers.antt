use Rattle.std.proofs.Common.{sym, ap, ◌∙◌}
use Rattle.journal.specs.Answers.{reading}
use Rattle.rescue.proofs.Walk.{stands_is, stands_not}
use Rattle.rescue.proofs.stands.Goals as goal

pub returns-in-Command : goal.returns-in-Command
returns-in-Command c = stands_is c.args.edition c.args.s.now c.args.at (sym c.decode.ensures ∙ ap reading c.in-Command.is)

pub returns-in_default : goal.returns-in_default
returns-in_default c = stands_not c.args.edition c.args.s.now c.args.at (sym c.decode.ensures) c.in_default.not-Command
