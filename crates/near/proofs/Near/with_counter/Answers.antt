use Rattle.near.specs.Steps.{countered_step}
use Rattle.near.proofs.Near.with_counter.Goals as goal

pub returns : goal.returns
returns c = λ o a b i m e. rw (c.put.ensures, simp e at c.countered-countered.ensures) (countered_step m o a b i e _)
