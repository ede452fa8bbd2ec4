use Rattle.std.proofs.Common.{◌≡◌, ◌∙◌, ap, ℕ, [], ◌∷◌, rules}
use Rattle.money.specs.Range.{bits_of}
use Rattle.money.specs.Facts.{back}
use Rattle.sheet.specs.SheetLaws.{retext}
use Rattle.asking.specs.Answers.{row_of}
use Rattle.asking.proofs.rows.put_round.Goals as goal

pub returns : goal.returns
returns c =
    let r = c.args.r in
    let amount : c.bits-amount.result ≡ bits_of r.amount = c.bits-amount.ensures ∙ ap bits_of (back r.amount (search rules)) in
    retext c.put_row.ensures (ap (λ (n : ℕ). row_of (r.party ∷ n ∷ r.rate ∷ r.duration ∷ r.time ∷ [])) amount)
