use Rattle.std.proofs.Common.{sym, ap, ◌∙◌, ◌+◌, ◌*◌, get_or, drop, length, arith}
use Rattle.wire.specs.FieldLaws.{begins_room}
use Rattle.journal.specs.Table.{made}
use Rattle.journal.specs.TableLaws.{few, low_field}
use Rattle.journal.specs.ReadLaws.{at-end, at_record_lem, no_head, not_well, whole, all_tops}
use Rattle.journal.specs.declared.reading.Values.{Values}
use Rattle.journal.proofs.decode.Goals as goal

pub returns-then-s-at : goal.returns-then-s-at
returns-then-s-at c = at-end c.args.edition c.args.s.now c.args.at c.if-s-at.true

pub overflow_mul-size : goal.overflow_mul-size
overflow_mul-size c = record { fits = omega (arith, ap length c.fields-tags.ensures, few c.args.edition (get_or c.args.s.now c.args.at 0)) }

pub overflow_add-size : goal.overflow_add-size
overflow_add-size c = record { fits = omega (arith, ap length c.fields-tags.ensures, few c.args.edition (get_or c.args.s.now c.args.at 0)) }

pub returns-then-not-begins : goal.returns-then-not-begins
returns-then-not-begins c =
    let a = c.args in
    at_record_lem a.edition a.s.now a.at c.if-s-at.false
    (rw (← c.fields-tags.ensures) (no_head a.edition (get_or a.s.now a.at 0) c.fields-tags.result.now a.s.now a.at (sym c.begins.ensures ∙ c.if-not-begins.true)))

pub gather-requires : goal.gather-requires
gather-requires c =
    let a = c.args in
    let t = get_or a.s.now a.at 0 in (
      omega (arith, begins_room t (11 * length c.fields-tags.result.now) a.at a.s.now (sym c.begins.ensures ∙ c.if-not-begins.false)),
      λ k. rw c.fields-tags.ensures (low_field a.edition t k),
    )

pub returns-in_default : goal.returns-in_default
returns-in_default c =
    let a = c.args in
    at_record_lem a.edition a.s.now a.at c.if-s-at.false
    (rw (← c.fields-tags.ensures) (not_well a.edition (get_or a.s.now a.at 0) c.fields-tags.result.now a.s.now a.at (sym c.gather.ensures ∙ c.in_default.is)))

pub named-requires : goal.named-requires
named-requires c = all_tops c.fields-tags.result.now (drop (c.args.at + 3) c.args.s.now) (sym c.in-Some.ensures)

pub overflow_add-at-2 : goal.overflow_add-at-2
overflow_add-at-2 c =
    let a = c.args in
    record { fits = omega (arith, c.ranges, c.well_formed, begins_room (get_or a.s.now a.at 0) (11 * length c.fields-tags.result.now) a.at a.s.now (sym c.begins.ensures ∙ c.if-not-begins.false)) }

pub returns : goal.returns
returns c =
    let a = c.args in
    let t = get_or a.s.now a.at 0 in
    let n = 11 * length c.fields-tags.result.now in
    at_record_lem a.edition a.s.now a.at c.if-s-at.false
    (rw (← c.fields-tags.ensures)
    (c.build.ensures ∙ ap (λ (v : Values). made a.edition t v a.at (a.at + (3 + n))) c.named.ensures
    ∙ whole a.edition t c.fields-tags.result.now a.s.now a.at (sym c.begins.ensures ∙ c.if-not-begins.false) (sym c.in-Some.ensures)))
