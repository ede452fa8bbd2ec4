-- A journal replayed in parts: the commands cs, and then ds on the book that cs left, answer and leave what cs and ds in one journal do.
use Rattle.std.specs.Prelude.{ℕ, ◌≡◌, refl, true, List, [], ◌∷◌, ◌++◌}
use Rattle.std.proofs.Common.{sym, ap, ◌∙◌}
use Rattle.edition.specs.Edition.{listed}
use Rattle.settings.specs.Laws.{settings_ranges}
use Rattle.command.specs.declared.Command.{Command}
use Rattle.rules.specs.Model.{Model}
use Rattle.book.specs.declared.Book.{Book}
use Rattle.book.specs.Stored.{model_of, stored, book_test}
use Rattle.soundness.specs.Played.{answer_to, obeyed, played, answers_of}
use Rattle.soundness.specs.Staying.{edition_kept}
use Rattle.soundness.specs.Books.{Typed, model_sound}
use Rattle.replay.specs.Replay.{Replayed, replay_on, replayed_from}
use Rattle.corollary.specs.Journals.{journal_of, AllHeld}
use Rattle.corollary.proofs.Replayed.{whole, journal_on, left_model, left_sound, from_left}

-- one replay and another after it: the answers of both, and what the second leaves
abbrev pub and_then : Replayed → Replayed → Replayed
and_then a z = record { answers = a.answers ++ z.answers; model = z.model; stop = z.stop }

played_in_parts : (m : Model) (cs ds : List Command) → and_then (whole m cs) (whole (played m cs) ds) ≡ whole m (cs ++ ds)
unfolding played answers_of
played_in_parts m [] ds = refl
played_in_parts m (c ∷ cs) ds = ap (λ (r : Replayed). record { answers = answer_to m c ∷ r.answers; model = r.model; stop = r.stop }) (played_in_parts (obeyed m c) cs ds)

all_held : (e : ℕ) (cs ds : List Command) → AllHeld e cs → AllHeld e ds → AllHeld e (cs ++ ds)
unfolding AllHeld
all_held e [] ds h k = k
all_held e (c ∷ cs) ds h k = (h.0, all_held e cs ds h.1 k)

module _ (e : ℕ) (l : listed e ≡ true) (m : Model) (q : m.settings.edition ≡ e) (cs ds : List Command) (h : AllHeld e cs) (k : AllHeld e ds) where
  pub in_parts : and_then (replay_on m (journal_of e cs)) (replay_on (replay_on m (journal_of e cs)).model (journal_of e ds)) ≡ replay_on m (journal_of e (cs ++ ds))
  in_parts =
      ap (λ (r : Replayed). and_then r (replay_on r.model (journal_of e ds))) (journal_on e l m q cs h)
      ∙ ap (and_then (whole m cs)) (journal_on e l (played m cs) (edition_kept m cs ∙ q) ds k)
      ∙ played_in_parts m cs ds
      ∙ sym (journal_on e l m q (cs ++ ds) (all_held e cs ds h k))

-- so do two calls of `replay_from`, the second with the book that the first gave back
module _ (b : Book) (y : Typed b) (t : book_test b ≡ true) (e : ℕ) (q : b.settings.edition ≡ e) (cs ds : List Command) (h : AllHeld e cs) (k : AllHeld e ds) where
  pub books_in_parts : (replayed_from (replayed_from b (journal_of e cs)).book (journal_of e ds)).book ≡ (replayed_from b (journal_of e (cs ++ ds))).book
  books_in_parts =
      let m = model_sound b y t in
      let l : listed e ≡ true = rw q at (settings_ranges m.settings).edition_in_lem in
      let first = from_left b (journal_of e cs) t refl in
      from_left (replayed_from b (journal_of e cs)).book (journal_of e ds) (left_sound m (journal_of e cs) first) refl
      ∙ ap (λ x. stored (replay_on x (journal_of e ds)).model) (left_model m (journal_of e cs) first)
      ∙ ap (λ (r : Replayed). stored r.model) (in_parts e l (model_of b) q cs ds h k)
      ∙ sym (from_left b (journal_of e (cs ++ ds)) t refl)
