-- A journal's header: which edition it names, and whether that is a book's. Assumes nothing.
use Rattle.std.specs.Prelude.{◌≡◌, Bool, true, false, List, ℕ, eqb}
use Rattle.std.proofs.Math.Path.{refl}
use Rattle.std.proofs.Common.{eqb-true}
use Rattle.refusal.specs.Choice.{pick}
use Rattle.money.specs.Facts.{both}
use Rattle.edition.specs.Edition.{first_edition, listed}
use Rattle.journal.specs.Answers.{Opening, good_header, bad_header}
use Rattle.journal.specs.Format.{opening_of}
use Rattle.replay.specs.Replay.{headed, edition_of}
use Rattle.replay.specs.Ahead.{opened}

good : (o : Opening) (e : ℕ) → o.answer ≡ 0 → o.edition ≡ e → o ≡ good_header e o.first
good o e a n i = record { answer = a i; edition = n i; first = o.first }

module _ (s : List ℕ) where
  -- as the code has read it
  pub headed_good : {e at : ℕ} (n : ℕ) → opening_of s ≡ good_header e at → headed n s ≡ eqb e n
  unfolding headed
  headed_good n o = rw o

  pub headed_bad : {at : ℕ} (n : ℕ) → opening_of s ≡ bad_header at → headed n s ≡ false
  unfolding headed
  headed_bad n o = rw o

  pub edition_good : {e at : ℕ} → opening_of s ≡ good_header e at → edition_of s ≡ e
  unfolding edition_of pick
  edition_good o = rw o

  pub edition_bad : {at : ℕ} → opening_of s ≡ bad_header at → edition_of s ≡ first_edition
  unfolding edition_of pick
  edition_bad o = rw o

  -- a header that names an edition, as it was read
  pub heads : (e : ℕ) → headed e s ≡ true → opening_of s ≡ good_header e (opening_of s).first
  unfolding headed
  heads e h = let b = both (eqb (opening_of s).answer 0) _ h in good (opening_of s) e (eqb-true _ 0 b.0) (eqb-true _ e b.1)

  -- a journal's edition is one that there is
  pub edition_known : listed (edition_of s) ≡ true
  unfolding edition_of pick listed
  edition_known = go (eqb (opening_of s).answer 0) refl
    where
      o : Opening
      o = opening_of s

      go : (t : Bool) → eqb o.answer 0 ≡ t → listed (pick t o.edition first_edition) ≡ true
      go true e = (opened s (good o o.edition (eqb-true o.answer 0 e) refl)).known
      go false e = refl
