-- Commands one after another, each with its time, refused ones among them: the history grows by those that are accepted, and the book is theirs.
use Rattle.std.specs.Prelude.{List, [], ◌∷◌, eqb}
use Rattle.refusal.specs.Choice.{pick}
use Rattle.command.specs.declared.Command.{Command}
use Rattle.rules.specs.Model.{Model}
use Rattle.rules.specs.Rules.{commanded}
use Rattle.soundness.specs.Played.{answer_to}

pub record Run : Type 0 where
  pub history : List Command
  pub model : Model

abbrev pub taken : Run → Command → Run
taken r c = record { history = c ∷ r.history; model = (commanded r.model c).done }

-- where no check fails, the answer is 0 and the command is accepted
unfoldable pub go : Run → Command → Run
go r c = pick (eqb (answer_to r.model c) 0) (taken r c) r

unfoldable pub run : Run → List Command → Run
run r [] = r
run r (c ∷ cs) = run (go r c) cs

abbrev pub from : Model → List Command → Run
from m cs = run (record { history = []; model = m }) cs
