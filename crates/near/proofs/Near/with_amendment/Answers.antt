use Rattle.near.specs.Steps.{amended_step}
use Rattle.near.proofs.Near.with_amendment.Goals as goal

pub returns : goal.returns
returns c = λ a o b i m e. rw (c.put_first.ensures, c.put.ensures, simp e at c.amended-amended.ensures) (amended_step m a o b i e _ _)
