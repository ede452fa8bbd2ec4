-- Replay is what the header leads to, and from a place what stands there and then the rest: the bound on the records is not seen. Assumes nothing.
use Rattle.std.specs.Prelude.{◌≡◌, refl, false, List, ℕ, zero, suc, ◌+◌, ◌≤◌, ◌<◌, length}
use Rattle.std.proofs.Common.{sym, ap, ◌∙◌, arith}
use borrow.Author.Tests.{eq-eqb}
use Rattle.refusal.specs.Choice.{pick}
use Rattle.refusal.specs.ChoiceLaws.{pick_off}
use Rattle.command.specs.declared.Command.{Command}
use Rattle.journal.specs.Answers.{good_header, Reading, found, refused, ended}
use Rattle.journal.specs.Format.{opening_of, read_at}
use Rattle.journal.proofs.Ahead.{Goes, goes}
use Rattle.rules.specs.Model.{Model}
use Rattle.replay.specs.Replay.{at_end, at_header, at_record, Replayed, halted, heard, follow, replay_by, replay_from, headed, replay_on}
use Rattle.soundness.specs.Played.{answer_to, obeyed}

module _ (m : Model) (s : List ℕ) where
  pub replay_headed : {e at : ℕ} → opening_of s ≡ good_header e at → e ≡ m.settings.edition → replay_on m s ≡ replay_from s at m
  unfolding replay_on headed pick
  replay_headed {e} o t = rw (o, eq-eqb e m.settings.edition t)

  pub replay_bare : headed m.settings.edition s ≡ false → replay_on m s ≡ halted at_header m
  unfolding replay_on
  replay_bare h = pick_off _ _ h

-- the rest counts only past the place
follow_same : (s : List ℕ) (at : ℕ) (m : Model) (f g : ℕ → Model → Replayed) → ((next : ℕ) (x : Model) → at < next → f next x ≡ g next x)
    → (d : Reading) → Goes s at d → follow f m d ≡ follow g m d
unfolding Goes
follow_same s at m f g h (found c next) k = ap (heard (answer_to m c)) (h next (obeyed m c) k.0)
follow_same s at m f g h (refused n p) k = refl
follow_same s at m f g h ended k = refl

-- nothing is past the end
follow_end : (s : List ℕ) (at : ℕ) (m : Model) (f : ℕ → Model → Replayed) → length s ≤ at → (d : Reading) → Goes s at d → halted at_end m ≡ follow f m d
unfolding Goes
follow_end s at m f h (found c next) k = absurd (omega (arith, k.0, k.1))
follow_end s at m f h (refused n p) k = absurd (omega (arith, k.1.1))
follow_end s at m f h ended k = refl

-- any bound that reaches the end is enough
pub enough : (i j : ℕ) (s : List ℕ) (at : ℕ) (m : Model) → length s ≤ i + at → length s ≤ j + at → replay_by i s at m ≡ replay_by j s at m
unfolding replay_by
enough zero zero s at m h k = refl
enough zero (suc j) s at m h k = follow_end s at m (replay_by j s) (omega arith) (read_at m.settings.edition s at) (goes m.settings.edition s at)
enough (suc i) zero s at m h k = sym (follow_end s at m (replay_by i s) (omega arith) (read_at m.settings.edition s at) (goes m.settings.edition s at))
enough (suc i) (suc j) s at m h k =
    follow_same s at m (replay_by i s) (replay_by j s) (λ next x l. enough i j s next x (omega arith) (omega arith)) (read_at m.settings.edition s at) (goes m.settings.edition s at)

module _ (s : List ℕ) (at : ℕ) (m : Model) where
  pub from_here : replay_from s at m ≡ follow (replay_from s) m (read_at m.settings.edition s at)
  unfolding replay_from replay_by
  from_here = enough (length s) (suc (length s)) s at m (omega arith) (omega arith)

  pub from_record : {c : Command} {next : ℕ} → read_at m.settings.edition s at ≡ found c next → replay_from s at m ≡ heard (answer_to m c) (replay_from s next (obeyed m c))
  from_record e = from_here ∙ ap (follow (replay_from s) m) e

  pub from_bad : {n p : ℕ} → read_at m.settings.edition s at ≡ refused n p → replay_from s at m ≡ halted (at_record p) m
  from_bad e = from_here ∙ ap (follow (replay_from s) m) e

  pub from_end : read_at m.settings.edition s at ≡ ended → replay_from s at m ≡ halted at_end m
  from_end e = from_here ∙ ap (follow (replay_from s) m) e
