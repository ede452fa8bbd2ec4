use Rattle.std.proofs.Common.{◌≡◌, sym, ap, ◌∙◌, ℕ, ◌-◌, List, length, take, drop, eqb, arith, length-drop, take_all, eqb-true}
use Rattle.std.specs.List.{starts_with}
use Rattle.text.specs.Reading.{leads}
use Rattle.text.specs.ReadingLaws.{no_name, some_name, leads_starts, eqb_no}
use Rattle.text.proofs.reading.named.Goals as goal

pub returns-then-is_empty : goal.returns-then-is_empty
returns-then-is_empty c =
    no_name c.args.k (drop c.args.at c.args.s.now) (ap length (sym c.word-word.ensures) ∙ eqb-true (length c.word-word.result.now) 0 (sym c.is_empty.ensures ∙ c.if-is_empty.true))

pub returns : goal.returns
returns c =
    let t = drop c.args.at c.args.s.now in
    let n = length c.args.s.now - c.args.at in
    let e : take n t ≡ t = take_all n t (omega (arith, length-drop c.args.at c.args.s.now)) in
    c.starts_with.ensures.value ∙ ap (λ (l : List ℕ). starts_with eqb l c.word-word.result.now) e ∙ leads_starts c.word-word.result.now t ∙ ap (λ (w : List ℕ). leads w t) c.word-word.ensures
    ∙ some_name c.args.k t (λ e. eqb_no (length c.word-word.result.now) 0 (sym c.is_empty.ensures ∙ c.if-is_empty.false) (ap length c.word-word.ensures ∙ e))
