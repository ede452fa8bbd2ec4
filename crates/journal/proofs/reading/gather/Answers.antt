use Rattle.std.proofs.Common.{◌≡◌, refl, sym, ◌∙◌, ◌+◌, ◌*◌, ◌≤◌, length, get_or, drop, add-zero, arith}
use Rattle.wire.specs.Field.{number_at}
use Rattle.journal.specs.Table.{top_of}
use Rattle.journal.specs.FieldLaws.{going_start, going_on, going_out, going_done, field_in_lem, field_other, field_high}
use Rattle.journal.proofs.OwnBytes.{begins_own, number_own}
use Rattle.journal.proofs.reading.gather.Goals as goal

pub returns-then-not-begins : goal.returns-then-not-begins
returns-then-not-begins c =
    let f = get_or c.args.tags.now c.loop-i.i 0 in
    let q = c.args.p + 11 * c.loop-i.i in
    let room : q + 11 ≤ length c.args.s.now = omega (arith, c.requires.0, c.loop-i-test.true) in
    going_out c.args.tags.now c.args.s.now c.args.p c.loop-i.i q f c.loop-i-test.true refl
    (field_other f q c.args.s.now (sym (begins_own c.args.s.now q room f) ∙ sym c.begins.ensures ∙ c.if-not-begins.true)) c.loop-i.invariant

pub returns-then-top-x : goal.returns-then-top-x
returns-then-top-x c =
    let f = get_or c.args.tags.now c.loop-i.i 0 in
    let q = c.args.p + 11 * c.loop-i.i in
    let room : q + 11 ≤ length c.args.s.now = omega (arith, c.requires.0, c.loop-i-test.true) in
    going_out c.args.tags.now c.args.s.now c.args.p c.loop-i.i q f c.loop-i-test.true refl
    (field_high f q c.args.s.now (rw (← c.top.ensures, ← number_own c.args.s.now q room, ← c.number-x.ensures) c.if-top-x.true)) c.loop-i.invariant

pub loop-i-init : goal.loop-i-init
loop-i-init c = going_start c.args.tags.now c.args.s.now c.args.p (add-zero c.args.p)

pub loop-i-preserved : goal.loop-i-preserved
loop-i-preserved c =
    let f = get_or c.args.tags.now c.loop-i.i 0 in
    let q = c.args.p + 11 * c.loop-i.i in
    let room : q + 11 ≤ length c.args.s.now = omega (arith, c.requires.0, c.loop-i-test.true) in
    let h : number_at 8 (drop (q + 3) c.args.s.now) ≤ top_of f = rw (← c.top.ensures, ← number_own c.args.s.now q room, ← c.number-x.ensures) c.if-top-x.false in
    let e : c.args.p + 11 * (c.loop-i.i + 1) ≡ q + 11 = omega arith in
    rw (e, c.from.ensures, c.number-x.ensures, number_own c.args.s.now q room)
    (going_on c.args.tags.now c.args.s.now c.args.p c.loop-i.i q f c.loop-i-test.true refl
    (field_in_lem f q c.args.s.now (sym (begins_own c.args.s.now q room f) ∙ sym c.begins.ensures ∙ c.if-not-begins.false) h) c.loop-i.invariant)

pub returns : goal.returns
returns c = going_done c.args.tags.now c.args.s.now c.args.p c.loop-i.i (c.args.p + 11 * c.loop-i.i) (omega arith) c.loop-i.invariant
