use Rattle.std.proofs.Common.{sym, ap, ◌∙◌, arith}
use Rattle.journal.specs.Answers.{opening, reading}
use Rattle.sheet.specs.SheetLaws.{retext}
use Rattle.text.specs.Text.{item_of, records_from}
use Rattle.text.specs.TextLaws.{onward, records_headed, bare, told}
use Rattle.text.specs.Telling.{begins, goes_on, stops, ends}
use Rattle.text.specs.WalkLaws.{leads}
use Rattle.text.specs.LineLaws.{line_sent}
use Rattle.text.proofs.tell.Goals as goal

pub returns-in_default : goal.returns-in_default
returns-in_default c = bare _ _ _ (sym c.header.ensures ∙ ap opening c.in_default.is)

pub loop-c-init : goal.loop-c-init
unfolding records_from
loop-c-init c = (0, begins _ (records_headed _ (sym c.header.ensures ∙ ap opening c.in-Ok.is)))

pub loop-c-smaller : goal.loop-c-smaller
loop-c-smaller c =
    let e = c.in-Ok.header.edition in
    omega (arith, leads _ _ (onward e c.args.s.now) (ap (item_of e) (sym c.decode.ensures ∙ ap reading c.in-Command.is)))

pub loop-c-preserved : goal.loop-c-preserved
loop-c-preserved c =
    let e = c.in-Ok.header.edition in (
      _,
      goes_on (onward e c.args.s.now) c.loop-c.invariant.1 (ap (item_of e) (sym c.decode.ensures ∙ ap reading c.in-Command.is))
          (retext c.put_line-pen.ensures (line_sent e _ c.split-tag.ensures)),
    )

pub returns-in-Malformed : goal.returns-in-Malformed
returns-in-Malformed c =
    let e = c.in-Ok.header.edition in
    told c.args.s.now (sym c.header.ensures ∙ ap opening c.in-Ok.is) c.put_title-pen.ensures
    (stops (onward e c.args.s.now) c.loop-c.invariant.1 (ap (item_of e) (sym c.decode.ensures ∙ ap reading c.in-Malformed.is)))

pub returns-in-End : goal.returns-in-End
returns-in-End c =
    let e = c.in-Ok.header.edition in
    told c.args.s.now (sym c.header.ensures ∙ ap opening c.in-Ok.is) c.put_title-pen.ensures
    (ends (onward e c.args.s.now) c.loop-c.invariant.1 (ap (item_of e) (sym c.decode.ensures ∙ ap reading c.in-End.is)))
