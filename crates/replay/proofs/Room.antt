-- How long a listing can be: what each record takes in the journal holds its line. Assumes nothing.
use Rattle.std.specs.Prelude.{◌≡◌, Bool, true, false, List, [], ◌∷◌, ◌++◌, eqb, leb, length}
use Rattle.std.proofs.Math.Path.{refl}
use Rattle.std.proofs.Common.{◌∙◌, arith, leb-true, le-leb}
use Prim.Native.Nat.{ℕ, zero, suc, ◌+◌, ◌-◌, ◌*◌, ◌≤◌, ◌<◌}
use Rattle.std.proofs.Math.ListN.{length-append}
use Rattle.refusal.specs.Choice.{pick}
use Rattle.refusal.specs.ChoiceLaws.{pick_on}
use Rattle.refusal.specs.declared.Refusal.{Refusal}
use Rattle.refusal.specs.declared.Refusal.TheVariants.{Paused, Blacklisted, InvalidInput, NotFound, AlreadyExists, Unauthorized, InvalidTransition, OfferExpired, AllowanceShort, BalanceShort, OutOfRange, NoRoom, JournalMalformed, BufferShort, BookUnsound}
use Rattle.refusal.specs.Refusal.{number, Check, first}
use Rattle.refusal.specs.Rule.{after}
use Rattle.money.specs.Facts.{both}
use Rattle.edition.specs.Edition.{first_edition, latest_edition, listed}
use Rattle.table.specs.Tables.{keys}
use Rattle.command.specs.declared.Command.{Command}
use Rattle.journal.specs.Answers.{Reading, found, refused, ended}
use Rattle.journal.specs.Format.{opening_of, read_at}
use Rattle.journal.proofs.Ahead.{Goes, goes}
use Rattle.sheet.specs.declared.Pen.{Pen}
use Rattle.sheet.specs.Sheet.{Wrote, pen_at}
use Rattle.lines.specs.Lines.{edition_line, answer_line, mark_line, account_lines}
use Rattle.lines.specs.LineSize.{edition_most, answer_most, mark_most, accounts_most, totals_most}
use Rattle.rules.specs.Model.{Model, fresh_model}
use Rattle.command.specs.Shape.{Shape, shape_of}
use Rattle.rules.specs.Rules.{ruled}
use Rattle.soundness.specs.Sound.{fresh_model_lem}
use Rattle.soundness.specs.Keeps.{stays_sound}
use Rattle.replay.specs.Replay.{at_header, halted, follow, replay_by, replay_from, headed, replay_on, edition_of}
use Rattle.soundness.specs.Played.{answer_to, obeyed}
use Rattle.replay.specs.declared.Listed.{Listed}
use Rattle.replay.specs.declared.Listed.TheVariants.{Done}
use Rattle.replay.specs.Text.{book_text, text_of, opening_line, listing_on, listing_of, listing_says}
use Rattle.sheet.specs.Shown.{listed_in, shown_in}
use Rattle.replay.specs.TextLaws.{text_heard, text_bad, text_bare, text_end}
use Rattle.replay.specs.Ahead.{opened}
use Rattle.replay.specs.Shown.{in_room, same_listed}
use Rattle.replay.specs.Heading.{heads, edition_known}
use Rattle.replay.specs.Bounded.{Low, Bounded}
use Rattle.replay.specs.Records.{OpensLow, low_ruled, Weighs, weighs}

-- a line for the edition, one for a malformed record, 64 lines of accounts and one of totals
abbrev pub extra : ℕ
extra = 11 + (45 + (64 * 113 + 70))

-- a record has 25 bytes at least, and its line 24 at most
unfoldable pub listing_room : ℕ → ℕ
listing_room n = n + extra

-- ── An answer has two digits at most ──────────────────────────────
number_most : (n : Refusal) → number n < 100
number_most Paused = omega arith
number_most Blacklisted = omega arith
number_most InvalidInput = omega arith
number_most NotFound = omega arith
number_most AlreadyExists = omega arith
number_most Unauthorized = omega arith
number_most InvalidTransition = omega arith
number_most OfferExpired = omega arith
number_most AllowanceShort = omega arith
number_most BalanceShort = omega arith
number_most OutOfRange = omega arith
number_most NoRoom = omega arith
number_most JournalMalformed = omega arith
number_most BufferShort = omega arith
number_most BookUnsound = omega arith

first_by : (t : Bool) (n : Refusal) (k : ℕ) → k < 100 → pick t (number n) k < 100
unfolding pick
first_by true n k h = number_most n
first_by false n k h = h

first_most : (l : List Check) → first l < 100
unfolding first
first_most [] = omega arith
first_most (k ∷ ks) = first_by k.0 k.1 (first ks) (first_most ks)

-- ── The book, after any records ───────────────────────────────────
pub fresh_bounded : (e : ℕ) → listed e ≡ true → Bounded (fresh_model e)
unfolding keys
fresh_bounded e l = record { sound = fresh_model_lem e l; low = record { ids = tt } }

low_by : (m : Model) (c : Shape) (t : Bool) → OpensLow c → Low m.accounts → Low (pick t (ruled m c).done m).accounts
unfolding pick
low_by m c true h k = low_ruled m c h k
low_by m c false h k = k

bounded_on : {m : Model} (c : Command) → OpensLow (shape_of c) → Bounded m → Bounded (obeyed m c)
unfolding after
bounded_on {m} c h b = record { sound = stays_sound b.sound c; low = low_by m (shape_of c) (eqb (answer_to m c) 0) h b.low }

book_most : {m : Model} → Bounded m → length (book_text m) ≤ 64 * 113 + 70
unfolding book_text
book_most {m} b =
    rw (length-append (account_lines m.accounts))
    (omega (arith, accounts_most m.accounts b.low.ids b.sound.accounts, b.sound.fits.accounts.fits, totals_most m.totals b.sound.totals))

-- ── The walk ──────────────────────────────────────────────────────
module _ (s : List ℕ) (short : length s < 18446744073709551616) where
  -- what is printed from a place on, where k records stood before it
  abbrev Most : ℕ → Type 0
  Most n = (at k : ℕ) (m : Model) → Bounded m → k ≤ at → at ≤ length s → length (text_of k (replay_by n s at m)) + at + 11 ≤ listing_room (length s)

  follow_most : (n : ℕ) → Most n → (at k : ℕ) (m : Model) → Bounded m → k ≤ at → at ≤ length s → (d : Reading) → Goes s at d → Weighs at d
      → length (text_of k (follow (replay_by n s) m d)) + at + 11 ≤ listing_room (length s)
  unfolding Goes Weighs listing_room
  follow_most n i at k m b h l (found c next) g w =
      rw (text_heard k (answer_to m c) (replay_by n s next (obeyed m c)), length-append (answer_line (k + 1) (answer_to m c)))
      (omega (arith, g, w.0, answer_most (k + 1) (answer_to m c) (omega (arith, g)) (first_most _), i next (k + 1) (obeyed m c) (bounded_on c w.1 b) (omega (arith, g)) g.1))
  follow_most n i at k m b h l (refused r p) g w =
      rw (text_bad k p m, length-append (mark_line (k + 1) p)) (omega (arith, g, mark_most (k + 1) p (omega (arith, g)) (omega (arith, g)), book_most b))
  follow_most n i at k m b h l ended g w = rw (text_end k m) (omega (arith, book_most b))

  walk_most : (n : ℕ) → Most n
  unfolding replay_by listing_room
  walk_most zero at k m b h l = rw (text_end k m) (omega (arith, book_most b))
  walk_most (suc n) at k m b h l = follow_most n (walk_most n) at k m b h l (read_at m.settings.edition s at) (goes m.settings.edition s at) (weighs m.settings.edition s at)

  pub listing_most : (m : Model) → Bounded m → length (listing_on m s) ≤ listing_room (length s)
  unfolding listing_on opening_line replay_on replay_from listing_room pick listed
  listing_most m b = go (headed e s) refl
    where
      e : ℕ
      e = m.settings.edition

      at : ℕ
      at = (opening_of s).first

      below : listed e ≡ true → e < 100
      below h = omega (arith, leb-true e latest_edition (both (leb first_edition e) _ h).1)

      go : (t : Bool) → headed e s ≡ t → length (pick t (edition_line e) [] ++ text_of 0 (pick t (replay_by (length s) s at m) (halted at_header m))) ≤ listing_room (length s)
      go true h =
          let o = opened s (heads s e h) in
          rw (length-append (edition_line e)) (omega (arith, edition_most e (below o.known), walk_most (length s) at 0 m b (omega arith) o.within))
      go false h = rw (text_bare m, length-append (mark_line 0 0)) (omega (arith, mark_most 0 0 (omega arith) (omega arith), book_most b))

-- a buffer with the room for it, as the code tests that: k bytes, and past them as many as the journal has
pub at_once : {m : Model} (s : List ℕ) {k : ℕ} {l n : List ℕ} {r : Pen} → Bounded m → Wrote true (listing_on m s) l (pen_at 0 false) n r → length s < 18446744073709551616 → k ≤ length l → leb (length s) (length l - k) ≡ true
    → extra ≤ k → (listing_says (Done r.at) ≡ listed_in (listing_on m s) l) × (n ≡ shown_in (listing_on m s) l)
unfolding listing_room
at_once {m} s {k} {l} b w h f e x = in_room (omega (arith, listing_most s h m b, leb-true (length s) (length l - k) e)) w

-- ── A journal of 32,768 bytes has its listing in 40,960 ───────────
pub desk_room : (s : List ℕ) → length s ≤ 32768 → length (listing_of s) ≤ 40960
unfolding listing_room listing_of
desk_room s h = omega (arith, listing_most s (omega arith) (fresh_model (edition_of s)) (fresh_bounded (edition_of s) (edition_known s)))

pub desk_most : {k : ℕ} (s : List ℕ) → k ≡ length (listing_of s) → length s ≤ 32768 → k ≤ 40960
desk_most s e h = omega (arith, desk_room s h)

-- so `listing` is never short there
pub never_short : (s l : List ℕ) {x : Listed} → length s ≤ 32768 → length l ≡ 40960 → listing_says x ≡ listed_in (listing_of s) l → x ≡ Done (length (listing_of s))
unfolding listed_in
never_short s l {x} h e p =
    same_listed x (Done (length (listing_of s))) (p ∙ pick_on _ _ (le-leb (length (listing_of s)) (length l) (omega (arith, desk_room s h))))
