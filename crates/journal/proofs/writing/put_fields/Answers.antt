use Rattle.std.proofs.Common.{ap, ◌∙◌, ℕ, ◌+◌, ◌*◌, ◌≤◌, List, length, get_or, arith, take_all}
use Rattle.refusal.specs.Placed.{placed}
use Rattle.refusal.specs.PlacedLaws.{laid_in, placed_none}
use Rattle.wire.specs.Field.{field_of, bytes_of}
use Rattle.wire.specs.FieldLaws.{length_field}
use Rattle.journal.specs.Format.{fields_out}
use Rattle.journal.specs.WriteLaws.{fields_turn}
use Rattle.journal.proofs.writing.put_fields.Goals as goal

pub loop-i-init : goal.loop-i-init
unfolding fields_out
loop-i-init c = placed_none c.args.p c.args.out.now

pub loop-i-preserved : goal.loop-i-preserved
loop-i-preserved c =
    let a = c.args in
    let l = c.loop-i in
    let w = field_of (get_or a.tags.now l.i 0) (bytes_of 8 (get_or a.values l.i 0)) in
    let room : a.p + 11 * l.i + length w ≤ length l.out = omega (arith, length_field (get_or a.tags.now l.i 0) (get_or a.values l.i 0), c.requires, l.auto.out) in
    c.put_field.ensures ∙ laid_in (a.p + 11 * l.i) w l.out room ∙ ap (λ (m : List ℕ). placed (a.p + 11 * l.i) w m) l.invariant
    ∙ fields_turn a.tags.now a.values a.out.now a.p l.i c.loop-i-test.true (omega (arith, c.requires))

pub returns : goal.returns
returns c =
    let a = c.args in
    c.loop-i.invariant ∙ ap (λ (t : List ℕ). placed a.p (fields_out t a.values) a.out.now) (take_all c.loop-i.i a.tags.now (omega arith))
