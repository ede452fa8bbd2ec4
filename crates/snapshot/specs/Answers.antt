-- How the code comes to its answers: from where the cursor or the pen ended to what reading and writing say.
use Rattle.std.specs.Prelude.{◌≡◌, Bool, true, false, ◌&&◌, ℕ, ◌-◌, ◌^◌, ◌≤◌, ◌<◌, leb}
use Rattle.std.proofs.Math.Path.{refl, sym, ap}
use Rattle.std.proofs.Common.{◌∙◌, arith}
use mathlib.Core.List.{List}
use Rattle.std.proofs.Math.ListN.{length}
use borrow.Author.Tests.{eq-eqb, ne_eqb, le-leb, lt-leb, leb-true, ltb-true, ltb-false}
use Rattle.refusal.specs.ChoiceLaws.{pick_on, pick_off}
use Rattle.refusal.specs.Refusal.{number, journal_malformed, buffer_short, book_unsound}
use Rattle.edition.specs.Edition.{first_edition, latest_edition, listed, unnamed_edition}
use Rattle.money.specs.Facts.{both}
use Rattle.table.specs.Test.{ids_test, rows_test}
use Rattle.account.specs.Account.{no_account, account_sound, account_zero}
use Rattle.invoice.specs.Invoice.{no_invoice, invoice_sound, invoice_zero}
use Rattle.settings.specs.Settings.{settings_sound}
use Rattle.settings.specs.declared.Settings.{Settings}
use Rattle.sheet.specs.declared.Pen.{Pen}
use Rattle.sheet.specs.Sheet.{Wrote, pen_at}
use Rattle.sheet.specs.Laid.{dry, wet}
use Rattle.shelves.specs.declared.Accounts.{Accounts}
use Rattle.shelves.specs.declared.Invoices.{Invoices}
use Rattle.shelves.specs.Accounts.{accounts_test}
use Rattle.shelves.specs.Invoices.{invoices_test}
use Rattle.rules.specs.Model.{Model}
use Rattle.book.specs.declared.Book.{Book}
use Rattle.book.specs.Stored.{model_of, stored, book_test}
use Rattle.codec.specs.Codec.{Got, got, led}
use Rattle.codec.specs.Whole.{loaded, refused, closing}
use Rattle.codec.specs.Cursor.{cursor}
use Rattle.codec.specs.Cursors.{shows, Takes, Next, takes_known, led_unknown, stays, from_start}
use Rattle.codec.specs.Puts.{Puts}
use Rattle.codec.specs.declared.Cursor.{Cursor}
use Rattle.snapshot.specs.Layout.{fields, edition_in, of_edition, layout}
use Rattle.snapshot.specs.Size.{weighs_layout}
use Rattle.snapshot.specs.Snapshot.{snapshot_of, snapshot_most, written, writing, sound_in, named, book_in, model_in, loaded_as, reading}

-- ── Reading ───────────────────────────────────────────────────────
-- the edition that the bytes name, and a cursor at its fields: what these give is what the bytes give
pub record Opens (s : List ℕ) (e : ℕ) (c : Cursor) : Type 0 where
  pub on : {d : Cursor} {m : Model} → Takes s c (fields e) d m → shows d m ≡ book_in s

pub past_unlisted : (x : ℕ) → latest_edition < x → listed x ≡ false
unfolding listed
past_unlisted x h = ap (λ (b : Bool). leb first_edition x && b) (lt-leb x latest_edition h) ∙ go (leb first_edition x)
  where
    go : (b : Bool) → b && false ≡ false
    go true = refl
    go false = refl

module _ (s : List ℕ) where
  pub opens_unnamed : named s ≡ false → Opens s unnamed_edition (cursor 0 0 true 0)
  unfolding book_in
  opens_unnamed n = record { on = λ g. from_start g ∙ sym (pick_off _ _ n) }

  module _ {k : Cursor} (g : Next s (cursor 0 0 true 0) 0x10 (2 ^ 64 - 1) k) (n : named s ≡ true) where
    pub opens_listed : {e : ℕ} → e ≡ k.x → listed e ≡ true → Opens s e k
    unfolding book_in layout
    opens_listed {e} i l = record { on = λ t. from_start (takes_known 0x10 listed edition_in fields of_edition g (rw i at l) (rw i at t)) ∙ sym (pick_on _ _ n) }

    -- one that is not listed: whatever is read on, 13 at 0
    pub opens_unlisted : {e : ℕ} {b : Bool} → listed k.x ≡ false → Opens s e (cursor (number journal_malformed) 0 b 0)
    unfolding book_in layout led
    opens_unlisted l = record { on = λ t. stays refl t ∙ sym (pick_on _ _ n ∙ led_unknown 0x10 listed edition_in fields of_edition g n l) }

module _ (s : List ℕ) (c : Cursor) (m : Model) (t : shows c m ≡ book_in s) where
  -- what was read from the start
  whole : {g : Got Model} → shows c m ≡ g → model_in s ≡ closing sound_in (length s) g
  unfolding model_in
  whole i = ap (closing sound_in (length s)) (sym t ∙ i)

  pub read-refused : (c.code ≡ 0 → ⊥) → loaded_as (refused c.code c.at) ≡ reading s
  unfolding reading shows closing
  read-refused n = ap loaded_as (sym (whole (pick_off _ _ (ne_eqb c.code 0 n))))

  module _ (z : c.code ≡ 0) where
    ended : model_in s ≡ closing sound_in (length s) (got m c.at c.ok)
    unfolding shows
    ended = whole (pick_on _ _ (eq-eqb c.code 0 z))

    pub read_past : (c.at ≡ length s → ⊥) → loaded_as (refused (number journal_malformed) c.at) ≡ reading s
    unfolding reading closing
    read_past n = ap loaded_as (sym (ended ∙ pick_off _ _ (ne_eqb c.at (length s) n)))

    module _ (e : c.at ≡ length s) {k : Bool} (b : k ≡ c.ok && book_test (stored m)) where
      pub read_unsound : k ≡ false → loaded_as (refused (number book_unsound) 0) ≡ reading s
      unfolding reading closing sound_in
      read_unsound f = ap loaded_as (sym (ended ∙ pick_on _ _ (eq-eqb c.at (length s) e) ∙ pick_off _ _ (sym b ∙ f)))

      pub read_whole : k ≡ true → loaded_as (loaded m) ≡ reading s
      unfolding reading closing sound_in
      read_whole f = ap loaded_as (sym (ended ∙ pick_on _ _ (eq-eqb c.at (length s) e) ∙ pick_on _ _ (sym b ∙ f)))

-- ── Writing ───────────────────────────────────────────────────────
module _ (b : Book) (l : List ℕ) where
  abbrev bytes : List ℕ
  bytes = snapshot_of (model_of b)

  pub write_unsound : book_test b ≡ false → (written (number book_unsound) 0, l) ≡ writing b l
  unfolding writing
  write_unsound k = sym (pick_off _ _ k)

  module _ (k : book_test b ≡ true) {n : List ℕ} {q : Pen} (w : Puts false layout (model_of b) l (pen_at 0 false) n q) where
    measured : Wrote false bytes l (pen_at 0 false) n q
    unfolding snapshot_of
    measured = w.wrote

    pub write_short : q.short ≡ true → (written (number buffer_short) 0, n) ≡ writing b l
    unfolding writing
    write_short s =
        let d = dry measured in
        let h : length l < length bytes = ltb-true (length l) (length bytes) (sym d.1 ∙ s) in
        ap (λ (n : List ℕ). (written (number buffer_short) 0, n)) d.0 ∙ sym (pick_on _ _ k ∙ pick_off _ _ (lt-leb (length bytes) (length l) h))

    -- no buffer of so many bytes is short
    pub write_room : q.short ≡ true → snapshot_most ≤ length l → ⊥
    unfolding snapshot_of
    write_room s h = omega (arith, h, ltb-true (length l) (length bytes) (sym (dry measured).1 ∙ s), weighs_layout.most (model_of b) w.fits)

    pub write_whole : {o : List ℕ} {r : Pen} → q.short ≡ false → Puts true layout (model_of b) n (pen_at 0 false) o r → (written 0 r.at, o) ≡ writing b l
    unfolding writing snapshot_of
    write_whole {o} {r} s v =
        let d = dry measured in
        let h : length bytes ≤ length l = ltb-false (length l) (length bytes) (sym d.1 ∙ s) in
        let u = wet h (rw d.0 at v.wrote) in
        ap (λ (x : ℕ). (written 0 x, o)) u.1 ∙ ap (λ (x : List ℕ). (written 0 (length bytes), x)) u.0 ∙ sym (pick_on _ _ k ∙ pick_on _ _ (le-leb (length bytes) (length l) h))

-- a sound book's edition is listed
pub edition_listed : (s : Settings) → settings_sound s ≡ true → listed s.edition ≡ true
unfolding settings_sound
edition_listed s e = (both (listed s.edition) _ e).0

-- at most 64 rows
pub few_accounts : (a : Accounts) → accounts_test a ≡ true → a.count ≤ 64
unfolding accounts_test
few_accounts a e = leb-true a.count 64 (both _ _ (both (ids_test 64 a.count a.ids) (rows_test account_sound account_zero no_account 64 a.count a.rows) e).0).0

pub few_invoices : (a : Invoices) → invoices_test a ≡ true → a.count ≤ 64
unfolding invoices_test
few_invoices a e = leb-true a.count 64 (both _ _ (both (ids_test 64 a.count a.ids) (rows_test invoice_sound invoice_zero no_invoice 64 a.count a.rows) e).0).0
