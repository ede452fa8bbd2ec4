use Rattle.std.proofs.Common.{ap, ◌∙◌, ◌++◌, ◌-◌, List, ℕ, length, replicate}
use Rattle.std.proofs.lemmas.List.{drop-replicate}
use Rattle.journal.specs.Table.{padded}
use Rattle.journal.proofs.writing.padded.Goals as goal

pub returns : goal.returns
unfolding padded
returns c =
    let e = drop-replicate {X = ℕ} (length c.args.numbers.now) 9 0 in
    ap (λ (l : List ℕ). c.copy_from_slice.new.self ++ l) e ∙ ap (λ (l : List ℕ). l ++ replicate (9 - length c.args.numbers.now) 0) c.copy_from_slice.ensures.after
