use Rattle.std.proofs.Common.{◌≡◌, ℕ, ◌+◌, sym, ap, ◌∙◌, arith, refl}
use Rattle.journal.specs.Answers.{reading, found}
use Rattle.book.specs.Turning.{stepped_by}
use Rattle.replay.specs.Ahead.{ahead, inside}
use Rattle.replay.specs.Going.{going, going_on, gone_bad, gone}
use Rattle.replay.specs.Standing.{held, stepped}
use Rattle.replay.proofs.records.Goals as goal

pub loop-c-init : goal.loop-c-init
loop-c-init c = going c.requires.0 (held c.requires.1)

pub loop-c-preserved : goal.loop-c-preserved
loop-c-preserved c =
    going_on c.loop-c.invariant (sym c.read.ensures ∙ ap reading c.in-Command.is)
    (stepped c.loop-c.invariant.plays.stand.shelved (stepped_by c.loop-c.book c.in-Command.c c.number_of-answer.ensures c.obey.ensures.answer c.obey.ensures.book))
    c.put_answer-pen.ensures

pub loop-c-smaller : goal.loop-c-smaller
loop-c-smaller c =
    let g = ahead c.loop-c.book.settings.edition c.args.s.now c.loop-c.at (sym c.read.ensures ∙ ap reading c.in-Command.is) in
    omega (arith, g.0, g.1)

pub returns-in-Malformed : goal.returns-in-Malformed
returns-in-Malformed c =
    let g = gone_bad c.loop-c.invariant (sym c.read.ensures ∙ ap reading c.in-Malformed.is) refl c.put_mark-p.ensures (c.finish.ensures.outcome, c.finish.ensures.wrote) in
    record { outcome = g.outcome; wrote = g.wrote }

pub returns-in-End : goal.returns-in-End
returns-in-End c =
    let g = gone c.loop-c.invariant (sym c.read.ensures ∙ ap reading c.in-End.is) refl (c.finish-in-End.ensures.outcome, c.finish-in-End.ensures.wrote) in
    record { outcome = g.outcome; wrote = g.wrote }
