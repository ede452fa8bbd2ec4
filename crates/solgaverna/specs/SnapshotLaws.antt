-- Where each answer of the functions on snapshots comes from. Assumes nothing.
use Rattle.std.specs.Prelude.{◌≡◌, Bool, true, false, List, ◌++◌, ℕ, leb, length, drop}
use Rattle.std.proofs.Math.Path.{refl, ap}
use Rattle.std.proofs.Common.{sym, ◌∙◌}
use Rattle.std.proofs.Math.Dec.{eqb}
use Rattle.refusal.specs.Choice.{pick}
use Rattle.refusal.specs.ChoiceLaws.{on, off, pick_on}
use Rattle.refusal.specs.Refusal.{number, journal_malformed, buffer_short}
use Rattle.sheet.specs.Shown.{listed_in, shown_in}
use Rattle.book.specs.declared.Book.{Book}
use Rattle.book.specs.Stored.{model_of, book_test}
use Rattle.replay.specs.Text.{listed_from, shown_from}
use Rattle.snapshot.specs.declared.Loaded.{Loaded}
use Rattle.snapshot.specs.declared.Written.{Written}
use Rattle.snapshot.specs.Snapshot.{snapshot_of, written, writing, Saved, reading}
use Rattle.snapshot.specs.ReadSound.{reading_sound}
use Rattle.solgaverna.specs.Answers.{minus, coded}
use Rattle.solgaverna.specs.AnswerLaws.{sizes}
use Rattle.solgaverna.specs.Snapshots.{snapshot_for, listing_for, of_snapshot, wrong_field}

-- the book of a snapshot
module _ (f l : List ℕ) (g : Book → ℕ × List ℕ) {r : Loaded} (e : r ≡ reading f) where
  pub unread : {n : ℕ} → eqb r.number 0 ≡ false → n ≡ minus r.number → ◌≡◌ {A = ℕ × List ℕ} (n, l) (of_snapshot f l g)
  unfolding of_snapshot
  unread h k = off _ (ap (λ (x : Loaded). eqb x.number 0) (sym e) ∙ h) (ap (λ (x : ℕ). (x, l)) k ∙ ap (λ (x : Loaded). (minus x.number, l)) e)

  pub read : {p : ℕ × List ℕ} → eqb r.number 0 ≡ true → p ≡ g r.book → p ≡ of_snapshot f l g
  unfolding of_snapshot
  read h k = on _ (ap (λ (x : Loaded). eqb x.number 0) (sym e) ∙ h) (k ∙ ap (λ (x : Loaded). g x.book) e)

-- a sound book's snapshot in a buffer
abbrev pub saved : Written × List ℕ → ℕ × List ℕ
saved x = (coded x.0.number x.0.size, x.1)

pub snapshot_saved : (b : Book) (l : List ℕ) → book_test b ≡ true → saved (writing b l) ≡ snapshot_for l b
unfolding writing listed_in shown_in pick
snapshot_saved b l t = ap saved (pick_on _ _ t) ∙ go (leb (length w) (length l))
  where
    w : List ℕ
    w = snapshot_of (model_of b)

    shown : ℕ × ℕ → List ℕ → ℕ × List ℕ
    shown x m = (coded x.0 x.1, m)

    go : (u : Bool) → saved (pick u (written 0 (length w), w ++ drop (length w) l) (written (number buffer_short) 0, l))
        ≡ shown (pick u (0, length w) (number buffer_short, 0)) (pick u (w ++ drop (length w) l) l)
    go true = refl
    go false = refl

module _ {b : Book} {l m : List ℕ} {w : Written} (t : book_test b ≡ true) (s : Saved b l w m) where
  pub put_refused : {r : ℕ} → eqb w.number 0 ≡ false → r ≡ minus w.number → ◌≡◌ {A = ℕ × List ℕ} (r, m) (snapshot_for l b)
  put_refused h k = ap (λ (x : ℕ). (x, m)) (off _ h k) ∙ ap saved s.is ∙ snapshot_saved b l t

  pub put_whole : {r : ℕ} → eqb w.number 0 ≡ true → r ≡ w.size → ◌≡◌ {A = ℕ × List ℕ} (r, m) (snapshot_for l b)
  put_whole h k = ap (λ (x : ℕ). (x, m)) (on _ h k) ∙ ap saved s.is ∙ snapshot_saved b l t

-- a book that was read is sound
pub read_sound : (f : List ℕ) {r : Loaded} → r ≡ reading f → eqb r.number 0 ≡ true → book_test r.book ≡ true
read_sound f e z = rw e (reading_sound f)

-- a listing from a sound book
pub listing_told : (b : Book) (s l : List ℕ) {x : ℕ × ℕ} {m : List ℕ} {r : ℕ} → book_test b ≡ true → r ≡ coded x.0 x.1
    → (x ≡ listed_from b s l) × (m ≡ shown_from b s l) → ◌≡◌ {A = ℕ × List ℕ} (r, m) (listing_for s l b)
unfolding listed_from shown_from
listing_told b s l t k h = sizes k (h.0 ∙ pick_on _ _ t, h.1 ∙ pick_on _ _ t)

-- where a snapshot is malformed
module _ (r : Loaded) where
  pub no_fault : eqb r.number (number journal_malformed) ≡ false → 18446744073709551615 ≡ wrong_field r
  unfolding wrong_field
  no_fault h = off _ h refl

  pub fault : eqb r.number (number journal_malformed) ≡ true → r.at ≡ wrong_field r
  unfolding wrong_field
  fault h = on _ h refl
