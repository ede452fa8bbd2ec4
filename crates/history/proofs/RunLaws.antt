-- The book of a run is the book after its commands; and what every accepted command keeps holds after any.
use Rattle.std.specs.Prelude.{◌≡◌, Bool}
use Rattle.std.proofs.Math.Path.{refl}
use Rattle.std.proofs.Common.{sym, ap, ◌∙◌, eqb-true}
use Rattle.std.proofs.Math.Bool.{true, false}
use mathlib.Core.List.{List, [], ◌∷◌}
use Rattle.std.proofs.Math.Dec.{eqb}
use Rattle.refusal.specs.Choice.{pick}
use Rattle.refusal.specs.Rule.{after}
use Rattle.command.specs.declared.Command.{Command}
use Rattle.rules.specs.Model.{Model}
use Rattle.rules.specs.Rules.{commanded}
use Rattle.soundness.specs.Played.{answer_to, played, accepted_by}
use Rattle.history.specs.Passed.{Passes, all_pass_lem}
use Rattle.history.specs.Run.{Run, taken, go, run}
use Rattle.book.specs.Stored.{stored, answers}
use Rattle.soundness.specs.Sound.{ModelSound}
use Rattle.soundness.specs.Keeps.{stays_sound}
use Rattle.soundness.specs.Calls.{one_answer, one_call}

-- the book that a command leaves, as the code's answer has it
go_after : (r : Run) (c : Command) → (go r c).model ≡ after r.model (commanded r.model c)
unfolding go after pick
go_after r c = by (eqb (answer_to r.model c) 0)
  where
    by : (g : Bool) → (pick g (taken r c) r).model ≡ pick g (commanded r.model c).done r.model
    by true = refl
    by false = refl

-- and after any commands
pub run_played : (r : Run) (cs : List Command) → (run r cs).model ≡ played r.model cs
unfolding run played
run_played r [] = refl
run_played r (c ∷ cs) = run_played (go r c) cs ∙ ap (λ m. played m cs) (go_after r c)

-- the accepted commands are those that the calls of the code accept
gone : (h : List Command) (m : Model) (c : Command) (g : Bool) → pick g (taken (record { history = h; model = m }) c) (record { history = h; model = m }) ≡ record { history = pick g (c ∷ h) h; model = pick g (commanded m c).done m }
unfolding pick
gone h m c true = refl
gone h m c false = refl

pub run_accepted : {m : Model} → ModelSound m → (h cs : List Command) → (run (record { history = h; model = m }) cs).history ≡ accepted_by h (stored m) cs
unfolding run go after accepted_by
run_accepted {m = m} s h [] = refl
run_accepted {m = m} s h (c ∷ cs) =
    let h' = pick (eqb (answer_to m c) 0) (c ∷ h) h in
    ap (λ r. (run r cs).history) (gone h m c (eqb (answer_to m c) 0))
    ∙ run_accepted {m = after m (commanded m c)} (stays_sound s c) h' cs
    ∙ sym (ap (λ n. accepted_by (pick (eqb n 0) (c ∷ h) h) (answers (stored m) c).book cs) (one_answer s c) ∙ ap (λ b. accepted_by h' b cs) (one_call s c))

-- what every accepted command keeps holds after any commands
module _ (P : List Command → Model → Type 0) (keep : (h : List Command) (m : Model) (c : Command) → P h m → Passes (commanded m c).checks → P (c ∷ h) (commanded m c).done) where
  kept_go : (r : Run) (c : Command) → P r.history r.model → P (go r c).history (go r c).model
  unfolding go pick
  kept_go r c h = by (eqb (answer_to r.model c) 0) refl
    where
      by : (g : Bool) → eqb (answer_to r.model c) 0 ≡ g → P (pick g (taken r c) r).history (pick g (taken r c) r).model
      by true e = keep r.history r.model c h (all_pass_lem (commanded r.model c).checks (eqb-true (answer_to r.model c) 0 e))
      by false e = h

  pub kept_run : (r : Run) → P r.history r.model → (cs : List Command) → P (run r cs).history (run r cs).model
  unfolding run
  kept_run r h [] = h
  kept_run r h (c ∷ cs) = kept_run (go r c) (kept_go r c h) cs
