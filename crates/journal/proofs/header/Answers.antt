use Rattle.std.proofs.Common.{Bool, ◌&&◌, ◌≡◌, true, false, refl, sym, ap, ◌∙◌, drop, arith}
use Rattle.refusal.specs.ChoiceLaws.{on, off}
use Rattle.edition.specs.Edition.{listed}
use Rattle.wire.specs.Field.{begins}
use Rattle.wire.specs.FieldTrip.{bytes_drop, number_small}
use Rattle.journal.specs.Answers.{good_header}
use Rattle.journal.specs.Format.{edition_in, opening_of}
use Rattle.journal.specs.FieldLaws.{and_off}
use Rattle.journal.proofs.header.Goals as goal

pub returns-then-not-begins : goal.returns-then-not-begins
unfolding opening_of
returns-then-not-begins c = off _ (ap (λ (t : Bool). t && listed (edition_in c.args.s.now)) (sym c.begins.ensures ∙ c.if-not-begins.true)) refl

pub overflow_cast-edition : goal.overflow_cast-edition
overflow_cast-edition c =
    let s = c.args.s.now in
    record { fits = omega (arith, c.pair-edition.ensures, number_small 2 (drop 3 s) (bytes_drop 3 s (λ i. (c.type_inv.s i).fits))) }

pub returns-then-not-is_listed : goal.returns-then-not-is_listed
unfolding opening_of
returns-then-not-is_listed c =
    let s = c.args.s.now in
    let e : listed (edition_in s) ≡ false = ap listed (sym c.pair-edition.ensures) ∙ sym c.is_listed.ensures ∙ c.if-not-is_listed.true in
    off _ (ap (λ (t : Bool). begins 0x10 2 s && t) e ∙ and_off (begins 0x10 2 s)) refl

pub returns : goal.returns
unfolding opening_of
returns c =
    let s = c.args.s.now in
    let e : listed (edition_in s) ≡ true = ap listed (sym c.pair-edition.ensures) ∙ sym c.is_listed.ensures ∙ c.if-not-is_listed.false in
    on _ (ap (λ (t : Bool). t && listed (edition_in s)) (sym c.begins.ensures ∙ c.if-not-begins.false) ∙ e) (ap (λ n. good_header n 5) c.pair-edition.ensures)
