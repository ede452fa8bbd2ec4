use Rattle.std.proofs.Common.{sym, ap, ◌∙◌}
use Rattle.text.specs.Answers.{faulty}
use Rattle.text.specs.AnswerLaws.{at_fault, no_space, in_space}
use Rattle.text.specs.TextLaws.{text_whole, text_faulty}
use Rattle.text.proofs.to_text.Goals as goal

pub returns-then-dry : goal.returns-then-dry
returns-then-dry c = let t = c.tell-dry.ensures in at_fault t.0 (text_faulty c.args.journal.now (sym t.1.0 ∙ c.if-dry.true) ∙ ap faulty (sym t.1.1))

pub returns-then-dry-2 : goal.returns-then-dry-2
returns-then-dry-2 c = let t = c.tell-dry.ensures in no_space t.0 (text_whole c.args.journal.now (sym t.1.0 ∙ c.if-dry.false)) c.if-dry-2.true

pub returns : goal.returns
returns c = let t = c.tell-dry.ensures in in_space t.0 (text_whole c.args.journal.now (sym t.1.0 ∙ c.if-dry.false)) c.if-dry-2.false c.tell.ensures.0
