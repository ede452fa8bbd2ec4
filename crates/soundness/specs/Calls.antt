-- Calls one after another, each on the book that the one before gave back: what the code's contract says of them
use Rattle.std.specs.Prelude.{◌≡◌, Bool, List, [], ◌∷◌}
use Rattle.std.proofs.Math.Path.{refl, sym, ap}
use Rattle.std.proofs.Common.{◌∙◌, ne_eqb}
use Rattle.std.proofs.Math.Bool.{true, false}
use Rattle.refusal.specs.Choice.{pick}
use Rattle.refusal.specs.ChoiceLaws.{pick_on, pick_off}
use Rattle.refusal.specs.Refusal.{number, book_unsound}
use Rattle.refusal.specs.Rule.{after, answered}
use Rattle.command.specs.declared.Command.{Command}
use Rattle.rules.specs.Model.{Model}
use Rattle.rules.specs.Rules.{commanded}
use Rattle.book.specs.declared.Book.{Book}
use Rattle.book.specs.declared.Step.{Step}
use Rattle.book.specs.Stored.{model_of, stored, step_of, book_test, answers}
use Rattle.book.specs.Shelving.{back, model_stored}
use Rattle.book.specs.Tested.{shelved_of}
use Rattle.soundness.specs.Sound.{ModelSound}
use Rattle.soundness.specs.Keeps.{stays_sound}
use Rattle.soundness.specs.Played.{answer_to, called, played}
use Rattle.soundness.specs.Books.{Typed, book_sound}

-- ── A refusal returns the very book ───────────────────────────────
module _ (b : Book) (c : Command) where
  abbrev ruling : Step
  ruling = answered step_of (model_of b) (commanded (model_of b) c)

  abbrev unsound : Step
  unsound = record { answer = number book_unsound; book = b }

  refused_rule : (ruling.answer ≡ 0 → ⊥) → ruling.book ≡ stored (model_of b)
  unfolding answered after
  refused_rule h = ap (λ m. stored m) (pick_off (commanded (model_of b) c).done (model_of b) (ne_eqb _ _ h))

  -- sound or not, whatever the number
  pub refusal_returns : Typed b → ((answers b c).answer ≡ 0 → ⊥) → (answers b c).book ≡ b
  unfolding answers pick
  refusal_returns y = go (book_test b) refl
    where
      go : (t : Bool) → book_test b ≡ t → ((pick t ruling unsound).answer ≡ 0 → ⊥) → (pick t ruling unsound).book ≡ b
      go true e h = refused_rule h ∙ sym (back (shelved_of b y.accounts y.invoices y.offers e))
      go false e h = refl

-- ── Any calls ─────────────────────────────────────────────────────
-- what one answers and what it leaves is what the rules say
pub one_answer : {m : Model} → ModelSound m → (c : Command) → (answers (stored m) c).answer ≡ answer_to m c
unfolding answers answered
one_answer {m} s c =
    ap (λ z. z.answer) (pick_on (answered step_of (model_of (stored m)) (commanded (model_of (stored m)) c)) _ (book_sound s))
    ∙ ap (λ n. answer_to n c) (model_stored s.fits)

pub one_call : {m : Model} → ModelSound m → (c : Command) → (answers (stored m) c).book ≡ stored (after m (commanded m c))
unfolding answers answered
one_call {m} s c =
    ap (λ z. z.book) (pick_on (answered step_of (model_of (stored m)) (commanded (model_of (stored m)) c)) _ (book_sound s))
    ∙ ap (λ n. stored (after n (commanded n c))) (model_stored s.fits)

-- from a sound book they leave what the rules leave of its model
pub called_played : {m : Model} → ModelSound m → (cs : List Command) → called (stored m) cs ≡ stored (played m cs)
unfolding called played
called_played {m = m} s [] = refl
called_played {m = m} s (c ∷ cs) = ap (λ b. called b cs) (one_call s c) ∙ called_played {m = after m (commanded m c)} (stays_sound s c) cs
