use Rattle.std.proofs.Common.{◌≡◌, ◌∙◌, ◌+◌, length, arith}
use borrow.Author.Tests.{not-true, not-false}
use Rattle.sheet.specs.SheetLaws.{retext}
use Rattle.text.specs.Reading.{command_at, line_for}
use Rattle.text.specs.Journal.{lines_from}
use Rattle.text.specs.JournalLaws.{record_is, lines_titled, lines_bad, lines_end}
use Rattle.text.specs.LineWalk.{onward, at-end, at_line, had, had_not}
use Rattle.text.specs.Telling.{begins, goes_on, stops, ends}
use Rattle.text.specs.TitleLaws.{heads}
use Rattle.text.specs.WalkLaws.{leads}
use Rattle.text.proofs.tell_lines.Goals as goal

pub loop-at-init : goal.loop-at-init
unfolding lines_from
loop-at-init c =
    let e = c.title_of-title.ensures in
    let h = rw (← e) at (heads c.args.s.now) in
    (h.inside, (h.few, (0, (omega arith, begins _ (lines_titled _ e)))))

pub loop-at-smaller : goal.loop-at-smaller
loop-at-smaller c =
    let i = c.title_of-title.result.edition in
    let h = had _ c.line_at-x.ensures (not-false _ c.if-not-x.false) in
    let a = leads _ _ (onward i 0x21 0x57 c.args.s.now) (at_line i 0x21 0x57 c.args.s.now c.loop-at.at c.loop-at-test.true ∙ h.is) in
    omega (arith, a)

pub returns-then-not-x : goal.returns-then-not-x
returns-then-not-x c =
    let t = c.args.s.now in
    let i = c.title_of-title.result.edition in
    let v = c.loop-at.invariant in
    let e = at_line i 0x21 0x57 t c.loop-at.at c.loop-at-test.true in
    let g : c.line_at-x.result ≡ line_for (command_at i t c.loop-at.at) = rw e c.line_at-x.ensures in
    let f = had_not (length t) c.loop-at.at (command_at i t c.loop-at.at) (onward i 0x21 0x57 t c.loop-at.at) c.loop-at-test.true g (not-true _ c.if-not-x.true) in
    lines_bad t c.title_of-title.ensures c.put_header-pen.ensures v.1.1.1.0 (stops (onward i 0x21 0x57 t) v.1.1.1.1 f)

pub loop-at-preserved : goal.loop-at-preserved
loop-at-preserved c =
    let t = c.args.s.now in
    let i = c.title_of-title.result.edition in
    let v = c.loop-at.invariant in
    let h = had _ c.line_at-x.ensures (not-false _ c.if-not-x.false) in
    let s = at_line i 0x21 0x57 t c.loop-at.at c.loop-at-test.true ∙ h.is in
    let a = leads _ _ (onward i 0x21 0x57 t) s in
    let w = retext c.put_record-pen.ensures (record_is i h) in
    (a.1, (omega (arith, a.0, v.1.0), (v.1.1.0 + 1, (omega (arith, v.1.1.1.0), goes_on (onward i 0x21 0x57 t) v.1.1.1.1 s w))))

pub returns : goal.returns
returns c =
    let t = c.args.s.now in
    let i = c.title_of-title.result.edition in
    lines_end t c.title_of-title.ensures c.put_header-pen.ensures (ends (onward i 0x21 0x57 t) c.loop-at.invariant.1.1.1.1 (at-end i 0x21 0x57 t c.loop-at.at c.loop-at-test.false))
