-- The book after any commands, refused ones among them, and their answers: of the model, and of the code.
use Rattle.std.specs.Prelude.{ℕ, List, [], ◌∷◌, eqb}
use Rattle.refusal.specs.Choice.{pick}
use Rattle.refusal.specs.Refusal.{first}
use Rattle.refusal.specs.Rule.{after}
use Rattle.command.specs.declared.Command.{Command}
use Rattle.book.specs.declared.Book.{Book}
use Rattle.book.specs.Stored.{answers}
use Rattle.rules.specs.Model.{Model}
use Rattle.rules.specs.Rules.{commanded}

-- a command's answer, and the book after it
abbrev pub answer_to : Model → Command → ℕ
answer_to m c = first (commanded m c).checks

abbrev pub obeyed : Model → Command → Model
obeyed m c = after m (commanded m c)

unfoldable pub played : Model → List Command → Model
played m [] = m
played m (c ∷ cs) = played (obeyed m c) cs

unfoldable pub answers_of : Model → List Command → List ℕ
answers_of m [] = []
answers_of m (c ∷ cs) = answer_to m c ∷ answers_of (obeyed m c) cs

-- calls of the code one after another, each on the book that the one before gave back
unfoldable pub called : Book → List Command → Book
called b [] = b
called b (c ∷ cs) = called (answers b c).book cs

-- the accepted ones among them by the answers that the calls gave, the latest first, before those of h
unfoldable pub accepted_by : List Command → Book → List Command → List Command
accepted_by h b [] = h
accepted_by h b (c ∷ cs) = accepted_by (pick (eqb (answers b c).answer 0) (c ∷ h) h) (answers b c).book cs
