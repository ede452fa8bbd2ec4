use Rattle.std.specs.Prelude.{ℤ, pos}
use Rattle.std.proofs.Common.{◌≡◌, rules, arith, sym, ap, ◌∙◌, w64}
use Rattle.std.proofs.Math.Facts.{to_z_pos}
use Rattle.money.specs.Range.{magnitude_of}
use Rattle.money.specs.Facts.{both, back}
use Rattle.terms.specs.Installment.{installment_amount}
use Rattle.terms.specs.Laws.{terms_in_lem, price_in, installment_le, installment_valid}
use Rattle.terms.proofs.installment.Goals as goal

pub first_of-requires : goal.first_of-requires
first_of-requires c =
    let t = c.args.t in
    let k = both _ _ (both _ _ c.if-not-terms_valid-count_valid.false).0 in
    let i = terms_in_lem t (sym c.terms_valid.ensures ∙ k.0) in
    rw (c.magnitude.ensures, back t.amount (search rules)) (price_in t.amount t.rate c.args.count i.amount i.rate_low i.rate_high (sym c.count_valid.ensures ∙ k.1))

pub overflow_cast-result : goal.overflow_cast-result
unfolding installment_amount
overflow_cast-result c =
    let t = c.args.t in
    let m : c.magnitude.result ≡ magnitude_of t.amount = simp (back t.amount (search rules)) at c.magnitude.ensures in
    let k = both _ _ (both _ _ c.if-not-terms_valid-count_valid.false).0 in
    let l = installment_le t c.args.kind c.args.count (terms_in_lem t (sym c.terms_valid.ensures ∙ k.0)) (sym c.count_valid.ensures ∙ k.1) in
    rw (c.first_of.ensures, m) (record { sfits = omega arith })

pub returns : goal.returns
unfolding installment_amount
returns c =
    let t = c.args.t in
    let m : c.magnitude.result ≡ magnitude_of t.amount = simp (back t.amount (search rules)) at c.magnitude.ensures in
    let f : c.first_of.result ≡ installment_amount t c.args.kind c.args.count = c.first_of.ensures ∙ rw m in
    let h = both _ _ c.if-not-terms_valid-count_valid.false in
    let k = both _ _ h.0 in
    let l = installment_le t c.args.kind c.args.count (terms_in_lem t (sym c.terms_valid.ensures ∙ k.0)) (sym c.count_valid.ensures ∙ k.1) in
    let e = installment_valid t c.args.kind c.args.count (sym c.terms_valid.ensures ∙ k.0) (sym c.count_valid.ensures ∙ k.1) (sym c.kind_listed.ensures ∙ h.1) in
    ap (λ (z : ℤ). (0, z)) (to_z_pos w64 (omega arith) ∙ ap pos f) ∙ sym e
