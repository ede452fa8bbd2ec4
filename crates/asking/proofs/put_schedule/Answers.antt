use Rattle.std.proofs.Common.{◌≡◌, arith, length, length-drop, rules}
use Rattle.sheet.specs.SheetLaws.{retext}
use Rattle.asking.specs.QuestionLaws.{schedule_none_lem, schedule_some}
use Rattle.asking.proofs.put_schedule.Goals as goal

pub returns-then-words-eq0 : goal.returns-then-words-eq0
returns-then-words-eq0 c = retext c.put.ensures (schedule_none_lem c.args.words c.if-words-eq0.true)

pub returns : goal.returns
returns c =
    let long : length c.args.words ≡ 12 = search rules in
    retext c.put_reply.ensures (schedule_some c.args.words c.if-words-eq0.false (omega (arith, length-drop 2 c.args.words, long)))
