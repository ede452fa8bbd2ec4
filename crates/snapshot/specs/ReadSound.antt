-- Reading bytes answers a sound book, also where it refuses them: a fresh one.
use Rattle.std.specs.Prelude.{◌≡◌, refl, Bool, true, false, ◌&&◌, List, ℕ, eqb, length}
use Rattle.refusal.specs.Choice.{pick}
use Rattle.refusal.specs.Refusal.{number, journal_malformed, book_unsound}
use Rattle.edition.specs.Edition.{first_edition, listed}
use Rattle.wire.specs.FieldLaws.{and_right}
use Rattle.rules.specs.Model.{Model, fresh_model}
use Rattle.book.specs.Stored.{stored, book_test}
use Rattle.soundness.specs.Sound.{fresh_model_lem}
use Rattle.soundness.specs.Books.{book_sound}
use Rattle.codec.specs.Codec.{Got, got, no}
use Rattle.codec.specs.Whole.{loaded, refused, closing}
use Rattle.snapshot.specs.Snapshot.{sound_in, book_in, model_in, loaded_as, reading}

pub fresh_sound : book_test (stored (fresh_model first_edition)) ≡ true
unfolding listed
fresh_sound = book_sound (fresh_model_lem first_edition refl)

chosen : (m : Model) (n : ℕ) (t u : Bool) → (u ≡ true → sound_in m ≡ true)
    → book_test (loaded_as (pick t (pick u (loaded m) (refused (number book_unsound) 0)) (refused (number journal_malformed) n))).book ≡ true
unfolding pick loaded_as sound_in
chosen m n true true h = h refl
chosen m n true false h = fresh_sound
chosen m n false u h = fresh_sound

closed : (k : ℕ) (g : Got Model) → book_test (loaded_as (closing sound_in k g)).book ≡ true
unfolding closing loaded_as
closed k (got m n v) = chosen m n (eqb n k) (v && sound_in m) (and_right v (sound_in m))
closed k (no r p) = fresh_sound

pub reading_sound : (s : List ℕ) → book_test (reading s).book ≡ true
unfolding reading model_in
reading_sound s = closed (length s) (book_in s)
