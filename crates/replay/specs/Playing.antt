-- The walk replays: what is still to come completes the outcome. Assumes nothing.
use Rattle.std.specs.Prelude.{◌≡◌, false, List, ℕ, suc, ◌+◌, ◌≤◌, length}
use Rattle.std.proofs.Common.{sym, ap, ◌∙◌, arith, add-zero}
use Rattle.refusal.specs.Refusal.{number, journal_malformed}
use Rattle.command.specs.declared.Command.{Command}
use Rattle.journal.specs.Answers.{found, refused, ended}
use Rattle.journal.specs.Format.{read_at}
use Rattle.book.specs.declared.Book.{Book}
use Rattle.book.specs.declared.Step.{Step}
use Rattle.rules.specs.Model.{Model}
use Rattle.book.specs.Stored.{model_of, stored, Shelved}
use Rattle.book.specs.Shelving.{back}
use Rattle.replay.specs.declared.Outcome.{Outcome}
use Rattle.replay.specs.Replay.{at_end, at_record, Replayed, halted, heard, replay_from, headed, replay_on, outcome_of, ending}
use Rattle.replay.specs.ReplayLaws.{replay_bare, from_record, from_bad, from_end}
use Rattle.replay.specs.Standing.{Holds, Standing, Stepped, stands, stands_on}

pub record Playing (s : List ℕ) (end : Outcome) (at k : ℕ) (b : Book) : Type 0 where
  pub stand : Standing s at k b
  pub completes : outcome_of k (replay_from s at (model_of b)) ≡ end

outcome_heard : (k a : ℕ) (r : Replayed) → outcome_of k (heard a r) ≡ outcome_of (k + 1) r
unfolding outcome_of
outcome_heard k a r = let e : k + suc (length r.answers) ≡ k + 1 + length r.answers = omega arith in rw e

pub play_bare : (s : List ℕ) {b : Book} → headed b.settings.edition s ≡ false → Shelved b → ending b 0 (number journal_malformed) 0 ≡ outcome_of 0 (replay_on (model_of b) s)
unfolding outcome_of
play_bare s {b} h k = ap (λ x. ending x 0 (number journal_malformed) 0) (back k) ∙ sym (ap (outcome_of 0) (replay_bare (model_of b) s h))

pub play_begins : (s : List ℕ) (at : ℕ) {m : Model} {b : Book} → at ≤ length s → Holds m b → Playing s (outcome_of 0 (replay_from s at m)) at 0 b
play_begins s at h f = record { stand = stands h f; completes = ap (λ x. outcome_of 0 (replay_from s at x)) f.model }

pub plays_on : {s : List ℕ} {end : Outcome} {at k : ℕ} {b : Book} {c : Command} {next : ℕ} {t : Step}
    → Playing s end at k b → read_at (model_of b).settings.edition s at ≡ found c next → Stepped (model_of b) c t → Playing s end next (k + 1) t.book
plays_on {s} {end} {at} {k} {b} i d e =
    record { stand = stands_on i.stand d e; completes = rw e.model (sym (ap (outcome_of k) (from_record s at (model_of b) d) ∙ outcome_heard k _ _) ∙ i.completes) }

pub play_stops : {s : List ℕ} {end : Outcome} {at k : ℕ} {b : Book} {n p : ℕ} → Playing s end at k b → read_at (model_of b).settings.edition s at ≡ refused n p → ending b k (number journal_malformed) p ≡ end
unfolding outcome_of
play_stops {s} {end} {at} {k} {b} {n} {p} i d =
    let e : ending (stored (model_of b)) k (number journal_malformed) p ≡ outcome_of k (halted (at_record p) (model_of b)) = rw (add-zero k) in
    ap (λ (x : Book). ending x k (number journal_malformed) p) (back i.stand.shelved) ∙ e ∙ sym (ap (outcome_of k) (from_bad s at (model_of b) d)) ∙ i.completes

pub play_ends : {s : List ℕ} {end : Outcome} {at k : ℕ} {b : Book} → Playing s end at k b → read_at (model_of b).settings.edition s at ≡ ended → ending b k 0 0 ≡ end
unfolding outcome_of
play_ends {s} {end} {at} {k} {b} i d =
    let e : ending (stored (model_of b)) k 0 0 ≡ outcome_of k (halted at_end (model_of b)) = rw (add-zero k) in
    ap (λ (x : Book). ending x k 0 0) (back i.stand.shelved) ∙ e ∙ sym (ap (outcome_of k) (from_end s at (model_of b) d)) ∙ i.completes
