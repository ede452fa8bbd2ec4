use Rattle.std.proofs.Common.{◌≡◌, ◌∙◌, ap, ℕ, ◌+◌, ◌-◌, List, ◌∷◌, get_or, take, drop, length-drop, arith, min, length, rules}
use Rattle.sheet.specs.SheetLaws.{retext}
use Rattle.asking.specs.Answers.{row_of, reply_in}
use Rattle.asking.specs.AnswerLaws.{take_least}
use Rattle.asking.proofs.rows.put_reply.Goals as goal

pub returns : goal.returns
unfolding reply_in
returns c =
    let words = c.args.words in
    let n = get_or words 1 0 in
    let long : length words ≡ 12 = search rules in
    let k : 2 + c.min.result - 2 ≡ min n 10 = omega (arith, c.min.ensures) in
    retext c.put_row.ensures
    (ap (λ (m : ℕ). row_of (get_or words 0 0 ∷ take m (drop 2 words))) k
    ∙ ap (λ (l : List ℕ). row_of (get_or words 0 0 ∷ l)) (take_least (drop 2 words) n 10 (omega (arith, length-drop 2 words, long))))
