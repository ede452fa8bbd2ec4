-- What `replay_from` and `replay` leave, for any bytes: a sound book, whose figures are those of the book before with the sums over the accepted commands of the
-- journal. For the journal of commands in an edition these are its commands, all of them answered.
use Rattle.std.specs.Prelude.{◌≡◌, Bool, length}
use Rattle.std.proofs.Math.Path.{refl, ap}
use Rattle.std.proofs.Common.{sym, subst, ◌∙◌, arith}
use Rattle.std.proofs.Math.Bool.{true, false}
use mathlib.Core.List.{List, [], ◌∷◌, ◌++◌}
use Prim.Native.Nat.{ℕ, zero, suc, ◌≤◌}
use Rattle.refusal.specs.Choice.{pick}
use Rattle.refusal.specs.ChoiceLaws.{pick_on}
use Rattle.refusal.specs.Refusal.{number, book_unsound}
use Rattle.edition.specs.Edition.{listed}
use Rattle.command.specs.declared.Command.{Command}
use Rattle.journal.specs.Answers.{Reading, found, refused, ended}
use Rattle.journal.specs.Format.{header_of, opening_of, read_at, bytes_for}
use Rattle.journal.specs.RoundTrip.{header_long, header_back}
use Rattle.rules.specs.Model.{Model, fresh_model}
use Rattle.book.specs.declared.Book.{Book}
use Rattle.book.specs.Stored.{model_of, stored, book_test, Shelved}
use Rattle.book.specs.Shelving.{back, shelved_stored, model_stored}
use Rattle.book.specs.Tested.{shelved_of}
use Rattle.soundness.specs.Sound.{ModelSound, fresh_model_lem}
use Rattle.soundness.specs.Played.{answer_to, obeyed, played, answers_of}
use Rattle.soundness.specs.Staying.{edition_stays}
use Rattle.soundness.specs.Books.{Typed, model_sound, played_sound, book_sound}
use Rattle.history.specs.Run.{from}
use Rattle.history.proofs.RunLaws.{run_played}
use Rattle.history.specs.Since.{MeetsSince}
use Rattle.history.proofs.Demand.{since}
use Rattle.history.specs.Meets.{Meets}
use Rattle.history.proofs.Stored.{stored_meets}
use Rattle.replay.specs.declared.Outcome.{Outcome}
use Rattle.replay.specs.Replay.{at_end, at_header, Replayed, halted, heard, follow, replay_by, replay_from, headed, replay_on, edition_of, replay_of, outcome_of, ending, replayed_from}
use Rattle.replay.specs.ReplayLaws.{replay_headed}
use Rattle.replay.specs.Heading.{edition_known}
use Rattle.corollary.specs.Journals.{taking, commands_by, commands_on, commands_in, records_of, journal_of, AllHeld}
use Rattle.corollary.proofs.JournalLaws.{none_left, leads, enough_bytes, commands_of_journal, edition_of_journal}

-- ── Any bytes ─────────────────────────────────────────────────────
-- the book keeps the edition that it began in, so all commands are read in that
module _ (e : ℕ) where
  first_in : (n : ℕ) (s : List ℕ) (at : ℕ) (m : Model) → m.settings.edition ≡ e → replay_by (suc n) s at m ≡ follow (replay_by n s) m (read_at e s at)
  unfolding replay_by
  first_in n s at m k = ap (λ (x : ℕ). follow (replay_by n s) m (read_at x s at)) k

  follow_model : (f : ℕ → Model → Replayed) (g : ℕ → List Command) → ((at : ℕ) (m : Model) → m.settings.edition ≡ e → (f at m).model ≡ played m (g at)) → (m : Model) → m.settings.edition ≡ e
      → (r : Reading) → (follow f m r).model ≡ played m (taking g r)
  unfolding played
  follow_model f g h m k (found c next) = h next (obeyed m c) (edition_stays m c ∙ k)
  follow_model f g h m k (refused n at) = refl
  follow_model f g h m k ended = refl

  model_by_lem : (n : ℕ) (s : List ℕ) (at : ℕ) (m : Model) → m.settings.edition ≡ e → (replay_by n s at m).model ≡ played m (commands_by e n s at)
  unfolding replay_by commands_by played
  model_by_lem zero s at m k = refl
  model_by_lem (suc n) s at m k = ap (λ (r : Replayed). r.model) (first_in n s at m k) ∙ follow_model (replay_by n s) (commands_by e n s) (model_by_lem n s) m k (read_at e s at)

pub replay_on_lem : (m : Model) (s : List ℕ) → (replay_on m s).model ≡ played m (commands_on m.settings.edition s)
unfolding replay_on replay_from commands_on pick played
replay_on_lem m s = go (headed m.settings.edition s)
  where
    e : ℕ
    e = m.settings.edition

    at : ℕ
    at = (opening_of s).first

    go : (t : Bool) → (pick t (replay_by (length s) s at m) (halted at_header m)).model ≡ played m (pick t (commands_by e (length s) s at) [])
    go true = model_by_lem e (length s) s at m refl
    go false = refl

-- ── From any sound book: what is left is sound, and meets its figures with the sums over what is accepted after it ──
module _ {m : Model} (y : ModelSound m) (s : List ℕ) {b : Book} (e : b ≡ stored (replay_on m s).model) where
  pub left : b ≡ stored (played m (commands_on m.settings.edition s))
  left = e ∙ ap (λ x. stored x) (replay_on_lem m s)

  still : ModelSound (played m (commands_on m.settings.edition s))
  still = played_sound y (commands_on m.settings.edition s)

  pub left_sound : book_test b ≡ true
  left_sound = rw left (book_sound still)

  pub left_shelved : Shelved b
  left_shelved = rw left (shelved_stored still.fits)

  pub left_model : model_of b ≡ (replay_on m s).model
  left_model = ap (λ z. model_of z) left ∙ model_stored still.fits ∙ sym (replay_on_lem m s)

  pub left_since : MeetsSince m (from m (commands_on m.settings.edition s)).history (model_of b)
  left_since =
      let cs = commands_on m.settings.edition s in
      subst (λ (x : Model). MeetsSince m (from m cs).history x) (run_played (record { history = []; model = m }) cs ∙ sym (left_model ∙ replay_on_lem m s)) (since m y cs)

-- what `replay_from` leaves
pub from_left : (b : Book) (s : List ℕ) {r : Outcome} → book_test b ≡ true → r ≡ replayed_from b s → r.book ≡ stored (replay_on (model_of b) s).model
unfolding replayed_from outcome_of
from_left b s t e = ap (λ (x : Outcome). x.book) (e ∙ pick_on _ _ t)

module _ (b : Book) (y : Typed b) (t : book_test b ≡ true) (s : List ℕ) (r : Outcome) (e : r ≡ replayed_from b s) where
  pub from_sound : book_test r.book ≡ true
  from_sound = left_sound (model_sound b y t) s (from_left b s t e)

  pub from_shelved : Shelved r.book
  from_shelved = left_shelved (model_sound b y t) s (from_left b s t e)

  pub replay_since : MeetsSince (model_of b) (from (model_of b) (commands_on b.settings.edition s)).history (model_of r.book)
  replay_since = left_since (model_sound b y t) s (from_left b s t e)

-- a journal whose header is bad or of another edition leaves the very book, sound or not
module _ (b : Book) (y : Typed b) (s : List ℕ) (h : headed b.settings.edition s ≡ false) where
  header_leaves : (t : Bool) → book_test b ≡ t → (pick t (outcome_of 0 (replay_on (model_of b) s)) (ending b 0 (number book_unsound) 0)).book ≡ b
  unfolding pick outcome_of replay_on
  header_leaves true t = rw h (sym (back (shelved_of b y.accounts y.invoices y.offers t)))
  header_leaves false t = refl

  pub header_returns : (replayed_from b s).book ≡ b
  unfolding replayed_from
  header_returns = header_leaves (book_test b) refl

-- ── Its case at a fresh book ──────────────────────────────────────
pub replay_model : (s : List ℕ) → (replay_of s).model ≡ played (fresh_model (edition_of s)) (commands_in s)
unfolding replay_of
replay_model s = replay_on_lem (fresh_model (edition_of s)) s

module _ (s : List ℕ) (r : Outcome) (e : r ≡ outcome_of 0 (replay_of s)) where
  fresh : ModelSound (fresh_model (edition_of s))
  fresh = fresh_model_lem (edition_of s) (edition_known s)

  fresh_left : r.book ≡ stored (replay_on (fresh_model (edition_of s)) s).model
  unfolding outcome_of replay_of
  fresh_left = ap (λ (x : Outcome). x.book) e

  -- demand 3 for the code: the figures are the history's
  pub replay_meets : Meets (from (fresh_model (edition_of s)) (commands_in s)).history (model_of r.book)
  replay_meets = stored_meets (edition_of s) (edition_known s) (commands_in s) r.book (left fresh s fresh_left)

  pub replay_sound : book_test r.book ≡ true
  replay_sound = left_sound fresh s fresh_left

  pub replay_shelved : Shelved r.book
  replay_shelved = left_shelved fresh s fresh_left

-- ── The journal of commands ───────────────────────────────────────
-- every command is answered, in order, to the end
abbrev pub whole : Model → List Command → Replayed
whole m cs = record { answers = answers_of m cs; model = played m cs; stop = at_end }

module _ (e : ℕ) where
  replays : (cs : List Command) (n : ℕ) (p : List ℕ) (m : Model) → m.settings.edition ≡ e → AllHeld e cs → length cs ≤ n → replay_by n (p ++ records_of e cs) (length p) m ≡ whole m cs
  unfolding replay_by records_of AllHeld answers_of played
  replays [] zero p m q h k = refl
  replays [] (suc n) p m q h k = first_in e n (p ++ []) (length p) m q ∙ rw (none_left e p)
  replays (c ∷ cs) zero p m q h k = absurd (omega arith)
  replays (c ∷ cs) (suc n) p m q h k =
      let l = leads e c p (records_of e cs) h.0 in
      first_in e n (p ++ records_of e (c ∷ cs)) (length p) m q ∙ rw (l.reads, l.rest) (ap (heard (answer_to m c)) (replays cs n (p ++ bytes_for e c) (obeyed m c) (edition_stays m c ∙ q) h.1 (omega arith)))

  -- on any book of the edition
  pub journal_on : listed e ≡ true → (m : Model) → m.settings.edition ≡ e → (cs : List Command) → AllHeld e cs → replay_on m (journal_of e cs) ≡ whole m cs
  unfolding replay_from journal_of
  journal_on l m q cs h =
      replay_headed m (journal_of e cs) (header_back e (records_of e cs) l) (sym q)
      ∙ (rw (header_long e) at (replays cs (length (journal_of e cs)) (header_of e) m q h (enough_bytes e cs)))

  pub journal_replays : listed e ≡ true → (cs : List Command) → AllHeld e cs → replay_of (journal_of e cs) ≡ whole (fresh_model e) cs
  unfolding replay_of
  journal_replays l cs h = ap (λ x. replay_on (fresh_model x) (journal_of e cs)) (edition_of_journal e l cs) ∙ journal_on l (fresh_model e) refl cs h

  pub journal_meets : listed e ≡ true → (cs : List Command) (r : Outcome) → AllHeld e cs → r ≡ outcome_of 0 (replay_of (journal_of e cs)) → Meets (from (fresh_model e) cs).history (model_of r.book)
  journal_meets l cs r h x = rw (commands_of_journal e l cs h, edition_of_journal e l cs) at (replay_meets (journal_of e cs) r x)
