use Rattle.std.proofs.Common.{◌≡◌, sym, ap, ◌∙◌, ◌++◌, ◌≤◌, List, ℕ, length, take, drop, arith, length-take-le}
use Rattle.std.proofs.Math.Seq.{take-length}
use Rattle.refusal.specs.Placed.{placed}
use Rattle.journal.specs.Answers.{opening}
use Rattle.rescue.specs.Rescue.{report_of}
use Rattle.rescue.proofs.Answers.{opened, not_opened, bad_header_lem, short_out, short_report, count-is, head_is, rescued}
use Rattle.rescue.proofs.rescue.Goals as goal

pub returns-in_default : goal.returns-in_default
returns-in_default c =
    let a = c.args in
    let w = bad_header_lem a.s.now a.out.now a.report.now (not_opened a.s.now (sym c.header.ensures ∙ ap opening c.in_default.is)) in
    (w.says, (w.clean, w.offsets))

pub returns-then-out-s : goal.returns-then-out-s
returns-then-out-s c =
    let a = c.args in
    let o = opened a.s.now (sym c.header.ensures ∙ ap opening c.in-Ok.is) in
    let w = short_out a.s.now a.out.now a.report.now o.good c.if-out-s.true in
    (w.says, (w.clean, w.offsets))

pub count-requires : goal.count-requires
count-requires c = let o = opened c.args.s.now (sym c.header.ensures ∙ ap opening c.in-Ok.is) in omega (arith, o)

pub returns-then-report-count : goal.returns-then-report-count
returns-then-report-count c =
    let a = c.args in
    let o = opened a.s.now (sym c.header.ensures ∙ ap opening c.in-Ok.is) in
    let n = count-is a.s.now a.out.now a.report.now o c.if-out-s.false c.count.ensures in
    let w = short_report a.s.now a.out.now a.report.now o.good c.if-out-s.false (omega (arith, n, c.if-report-count.true)) in
    (w.says, (w.clean, w.offsets))

pub slice_bounds-copy-end : goal.slice_bounds-copy-end
slice_bounds-copy-end c =
    let o = opened c.args.s.now (sym c.header.ensures ∙ ap opening c.in-Ok.is) in
    sym (length-take-le c.in-Ok.header.first c.args.s.now (omega (arith, o)))

pub sweep-requires : goal.sweep-requires
sweep-requires c =
    let o = opened c.args.s.now (sym c.header.ensures ∙ ap opening c.in-Ok.is) in
    ((omega (arith, o), omega (arith, c.copy.ensures.size, c.if-out-s.false)), omega (arith, c.if-report-count.false, c.count.ensures))

pub returns : goal.returns
returns c =
    let a = c.args in
    let o = opened a.s.now (sym c.header.ensures ∙ ap opening c.in-Ok.is) in
    let h = take c.in-Ok.header.first a.s.now in
    let enough : length (report_of a.s.now) ≤ length a.report.now = omega (arith, c.if-report-count.false, count-is a.s.now a.out.now a.report.now o c.if-out-s.false c.count.ensures) in
    let head : c.copy.new.to ≡ placed 0 h a.out.now =
    head_is a.s.now a.out.now a.report.now o c.if-out-s.false (c.copy.ensures.value ∙ ap (λ (z : List ℕ). z ++ drop (length h) a.out.now) (sym (take-length h))) in
    let w = rescued a.s.now a.out.now a.report.now o c.if-out-s.false enough head c.sweep.ensures in
    (w.says, (w.clean, w.offsets))
