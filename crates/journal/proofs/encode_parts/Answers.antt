use Rattle.std.proofs.Common.{◌≡◌, ap, ◌∙◌, ℕ, ◌+◌, ◌*◌, ◌≤◌, List, length, arith}
use Rattle.wire.specs.Field.{head_of, bytes_of}
use Rattle.refusal.specs.Placed.{placed}
use Rattle.refusal.specs.PlacedLaws.{laid_in}
use Rattle.journal.specs.Table.{fields_of}
use Rattle.journal.specs.TableLaws.{few}
use Rattle.journal.specs.Format.{record_of, fields_out}
use Rattle.journal.specs.WriteLaws.{record_placed, length_record, short, fitting}
use Rattle.journal.proofs.encode_parts.Goals as goal

pub overflow_mul-size : goal.overflow_mul-size
overflow_mul-size c = record { fits = omega (arith, ap length c.fields-tags.ensures, few c.args.edition c.args.tag) }

pub overflow_add-size : goal.overflow_add-size
overflow_add-size c = record { fits = omega (arith, ap length c.fields-tags.ensures, few c.args.edition c.args.tag) }

pub returns-then-out-at : goal.returns-then-out-at
returns-then-out-at c =
    let a = c.args in
    short a.at (record_of a.edition a.tag a.values) a.out.now (omega (arith, length_record a.edition a.tag a.values, c.if-out-at.true))

pub returns-then-out-at-2 : goal.returns-then-out-at-2
returns-then-out-at-2 c =
    let a = c.args in
    short a.at (record_of a.edition a.tag a.values) a.out.now (omega (arith, length_record a.edition a.tag a.values, ap length c.fields-tags.ensures, c.if-out-at.false, c.if-out-at-2.true))

pub put_fields-requires : goal.put_fields-requires
put_fields-requires c =
    let e = ap length c.fields-tags.ensures in
    (omega (arith, e, few c.args.edition c.args.tag), omega (arith, e, c.put_head.auto.out, c.if-out-at.false, c.if-out-at-2.false))

pub returns : goal.returns
unfolding head_of bytes_of
returns c =
    let a = c.args in
    let f = c.fields-tags.result.now in
    let w = record_of a.edition a.tag a.values in
    let e : length f ≡ length (fields_of a.edition a.tag) = ap length c.fields-tags.ensures in
    let n : 3 + 11 * length f ≡ length w = omega (arith, e, length_record a.edition a.tag a.values) in
    let room : a.at + (3 + 11 * length f) ≤ length a.out.now = omega (arith, c.if-out-at.false, c.if-out-at-2.false) in
    let h : c.put_head.new.out ≡ placed a.at (head_of a.tag (11 * length f)) a.out.now = c.put_head.ensures ∙ laid_in a.at (head_of a.tag (11 * length f)) a.out.now (omega arith) in
    let p : c.put_fields.new.out ≡ placed a.at w a.out.now =
    rw (← c.fields-tags.ensures) (c.put_fields.ensures ∙ ap (λ (l : List ℕ). placed (a.at + 3) (fields_out f a.values) l) h ∙ record_placed a.tag f a.values a.out.now a.at room) in
    fitting a.at w a.out.now (omega arith) n p
