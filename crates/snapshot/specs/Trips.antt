-- THE BYTE RULES: reading what was written gives the same book, and accepted bytes, with the edition's field before them where they have none, are just those that writing their book gives.
use Rattle.std.specs.Prelude.{◌≡◌, Bool, ◌&&◌, List, [], ◌∷◌, ◌++◌, map, ℕ, zero, suc, ◌≤◌, ◌<◌, leb, length, get_or, take}
use Rattle.std.proofs.Math.Path.{refl, sym, ap, subst}
use Rattle.std.proofs.Common.{◌∙◌, arith, le-leb}
use Rattle.std.proofs.Math.Bool.{true, false}
use Rattle.std.proofs.Math.ListN.{drop}
use Rattle.std.proofs.lemmas.List.{length-map}
use Rattle.std.proofs.Math.Seq.{take-append_seam, drop_at}
use Rattle.refusal.specs.Choice.{pick}
use Rattle.refusal.specs.ChoiceLaws.{pick_on, pick_off}
use Rattle.refusal.specs.Refusal.{number, buffer_short, book_unsound}
use Rattle.edition.specs.Edition.{unnamed_edition}
use Rattle.wire.specs.Field.{bytes_of, head_of, field_of, begins}
use Rattle.wire.specs.FieldLaws.{length_field}
use Rattle.wire.specs.FieldTrip.{begins_field}
use Rattle.wire.specs.NumberLaws.{Bytes}
use Rattle.table.specs.Tables.{Table, key, held}
use Rattle.table.specs.Padded.{padded, length-padded}
use Rattle.table.specs.Shelf.{table_of}
use Rattle.table.proofs.ShelfBack.{table_stored}
use Rattle.table.specs.Parts.{join_columns}
use Rattle.negotiation.specs.Rounds.{round_slots, no_round, no_negotiation}
use Rattle.negotiation.specs.Whole.{Whole}
use Rattle.negotiation.specs.Laws.{none_whole}
use Rattle.negotiation.specs.declared.Negotiation.{Negotiation}
use Rattle.account.specs.Account.{no_account}
use Rattle.invoice.specs.Invoice.{no_invoice}
use Rattle.money.specs.Facts.{never}
use Rattle.offer.specs.Offer.{no_deal}
use Rattle.offer.specs.declared.Deal.{Deal}
use Rattle.shelves.specs.Offers.{deals_of, stored_deals}
use Rattle.shelves.specs.Deals.{deal_parts_lem}
use Rattle.rules.specs.Model.{Model}
use Rattle.book.specs.declared.Book.{Book}
use Rattle.book.specs.Stored.{model_of, stored, book_test, Shelved}
use Rattle.book.specs.Shelving.{back}
use Rattle.soundness.specs.Books.{Typed}
use Rattle.codec.specs.Codec.{AllFit, column, ◌then◌, via, rows, led}
use Rattle.codec.specs.Whole.{Reading, loaded, refused, closing, reading_of, read_back, canonical, reading_stops}
use Rattle.snapshot.specs.Layout.{settings, negotiation, negotiation_from, negotiation_parts, deal, fields, edition_in, of_edition, layout}
use Rattle.snapshot.specs.Snapshot.{snapshot_of, written, writing, Saved, sound_in, named, book_in, model_in, loaded_as, reading}
use Rattle.snapshot.specs.declared.Loaded.{Loaded}
use Rattle.snapshot.specs.declared.Written.{Written}

-- ── A model that was read fits its arrays ─────────────────────────
rounds_whole : (n : Negotiation) → negotiation_from (negotiation_parts n) ≡ n → Whole round_slots n
rounds_whole n e = record { long = ap (λ (x : Negotiation). length x.rounds) (sym e) ∙ length-padded no_round (λ r. r) round_slots (take n.len n.rounds) }

deal_whole : (e : ℕ) (r : ℕ × Deal) → (deal e).Fits r → Whole round_slots r.1.negotiation
unfolding deal negotiation ◌then◌ via
deal_whole e r f = rounds_whole r.1.negotiation f.0.1.1.0.1

all_whole : (e n : ℕ) (t : Table Deal) → AllFit (deal e) t → (k : ℕ) → Whole round_slots (get_or (map (λ d. d.negotiation) (padded no_deal held n t)) k no_negotiation)
unfolding padded AllFit
all_whole e zero t f k = none_whole
all_whole e (suc n) [] f zero = none_whole
all_whole e (suc n) [] f (suc k) = all_whole e n [] f k
all_whole e (suc n) (r ∷ t) f zero = deal_whole e r f.0
all_whole e (suc n) (r ∷ t) f (suc k) = all_whole e n t f.1 k

module _ (e : ℕ) (m : Model) (f : (fields e).Fits m) where
  -- the parts of what fits
  few_accounts : length m.accounts ≤ 64
  unfolding fields ◌then◌ via rows
  few_accounts = f.0.1.1.0.0.0

  few_invoices : length m.invoices ≤ 64
  unfolding fields ◌then◌ via rows
  few_invoices = f.0.1.1.1.0.0.0

  few_offers : length m.offers ≤ 64
  unfolding fields ◌then◌ via rows
  few_offers = f.0.1.1.1.1.0.0

  fit_offers : AllFit (deal e) m.offers
  unfolding fields ◌then◌ via rows
  fit_offers = f.0.1.1.1.1.1

  pub typed : Typed (stored m)
  typed = record {
    accounts = record { ids_long = length-padded 0 key 64 m.accounts; rows_long = length-padded no_account held 64 m.accounts };
    invoices = record { ids_long = length-padded 0 key 64 m.invoices; rows_long = length-padded no_invoice held 64 m.invoices };
    offers = record {
      ids_long = length-padded 0 key 64 m.offers;
      rows_long = length-map (padded no_deal held 64 m.offers) (λ d. d.offer) ∙ length-padded no_deal held 64 m.offers;
      negotiations_long = length-map (padded no_deal held 64 m.offers) (λ d. d.negotiation) ∙ length-padded no_deal held 64 m.offers;
      schedules_long = length-map (padded no_deal held 64 m.offers) (λ d. d.schedule) ∙ length-padded no_deal held 64 m.offers;
      whole = λ k h. all_whole e 64 m.offers fit_offers k;
    };
  }

  deals_back : deals_of (stored_deals m.offers) ≡ m.offers
  deals_back = ap (λ r. table_of (padded 0 key 64 m.offers) r (length m.offers)) (join_columns deal_parts_lem (padded no_deal held 64 m.offers)) ∙ table_stored no_deal 64 m.offers few_offers

  pub model_back : model_of (stored m) ≡ m
  model_back = rw (table_stored no_account 64 m.accounts few_accounts, table_stored no_invoice 64 m.invoices few_invoices, deals_back)

-- ── The first field ───────────────────────────────────────────────
names_edition : (m : Model) → named (layout.out m) ≡ true
unfolding layout led bytes_of
names_edition m = begins_field 0x10 (bytes_of 8 (edition_in m)) ((fields (edition_in m)).out m) (omega arith)

names_none : (e : ℕ) (m : Model) → named ((fields e).out m) ≡ false
unfolding fields settings ◌then◌ via column field_of head_of begins
names_none e m = nothing (leb 11 (length ((fields e).out m)))
  where
    nothing : (b : Bool) → b && false ≡ false
    nothing true = refl
    nothing false = refl

refusal_numbered : (s : List ℕ) (n at : ℕ) → model_in s ≡ refused n at → 0 < n
unfolding model_in book_in reading_of pick
refusal_numbered s n at i = go (named s) i
  where
    go : (b : Bool) → closing sound_in (length s) (pick b (layout.into s 0) ((fields unnamed_edition).into s 0)) ≡ refused n at → 0 < n
    go true i = reading_stops layout sound_in s n at i
    go false i = reading_stops (fields unnamed_edition) sound_in s n at i

-- ── Accepted bytes ────────────────────────────────────────────────
-- the bytes, with the field of the edition that they are read by
abbrev pub edition_field : ℕ → List ℕ
edition_field e = field_of 0x10 (bytes_of 8 e)

unfoldable pub with_edition : List ℕ → List ℕ
with_edition s = pick (named s) s (edition_field unnamed_edition ++ s)

pub record Accepted (s : List ℕ) (b : Book) : Type 0 where
  -- they are what writing their book gives: whole, or without the edition's field what follows it there
  pub bytes : with_edition s ≡ snapshot_of (model_of b)
  pub written_again : (l : List ℕ) → length (with_edition s) ≤ length l → writing b l ≡ (written 0 (length (with_edition s)), with_edition s ++ drop (length (with_edition s)) l)
  -- which is sound, and of the edition that names none where they have no field for it
  pub sound : book_test b ≡ true
  pub typed : Typed b
  pub edition : named s ≡ false → b.settings.edition ≡ unnamed_edition

module _ (s : List ℕ) (m : Model) (e : ℕ) where
  made : with_edition s ≡ snapshot_of m → (fields e).Fits m → book_test (stored m) ≡ true → (named s ≡ false → e ≡ unnamed_edition) → Accepted s (stored m)
  unfolding writing
  made w f t n = record {
    bytes = same;
    written_again = λ l h. pick_on _ _ t ∙ rw (← same) (pick_on _ _ (le-leb (length (with_edition s)) (length l) h));
    sound = t;
    typed = typed e m f;
    edition = λ z. of_edition e m f ∙ n z;
  }
    where
      same : with_edition s ≡ snapshot_of (model_of (stored m))
      same = w ∙ sym (ap snapshot_of (model_back e m f))

module _ (s : List ℕ) (k : Bytes s) where
  -- by either reading
  read_as : (m : Model) (b : Bool) → named s ≡ b → model_in s ≡ loaded m → Accepted s (stored m)
  unfolding model_in sound_in book_in reading_of with_edition snapshot_of layout led
  read_as m true n i =
      let c = canonical layout sound_in s m k (ap (closing sound_in (length s)) (sym (pick_on _ _ n)) ∙ i) in
      made s m (edition_in m) (pick_on _ _ n ∙ c.bytes) c.fits.fits c.fair (λ z. absurd (never (sym z ∙ n)))
  read_as m false n i =
      let c = canonical (fields unnamed_edition) sound_in s m k (ap (closing sound_in (length s)) (sym (pick_off _ _ n)) ∙ i) in
      let e = of_edition unnamed_edition m c.fits in
      made s m unnamed_edition (pick_off _ _ n ∙ ap (λ l. edition_field unnamed_edition ++ l) c.bytes ∙ ap (λ (x : ℕ). edition_field x ++ (fields x).out m) (sym e)) c.fits c.fair (λ z. refl)

  found : (g : Reading Model) → model_in s ≡ g → (loaded_as g).number ≡ 0 → Accepted s (loaded_as g).book
  unfolding loaded_as
  found (loaded m) i z = read_as m (named s) refl i
  found (refused n at) i z = absurd (omega (arith, refusal_numbered s n at i, z))

  pub accepted : (r : Loaded) → r ≡ reading s → r.number ≡ 0 → Accepted s r.book
  unfolding reading
  accepted r e z = rw e (found (model_in s) refl (ap (λ (x : Loaded). x.number) (sym e) ∙ z))

-- ── What was written ──────────────────────────────────────────────
-- where it answers 0 the book is sound, and its fields stand at the buffer's start
record Stood (b : Book) (r : Written) (m : List ℕ) : Type 0 where
  pub sound : book_test b ≡ true
  pub fields : take r.size m ≡ snapshot_of (model_of b)

-- any two answers that it allows coincide
pub one_saved : {b : Book} {l : List ℕ} {r t : Written} {m n : List ℕ} → Saved b l r m → Saved b l t n → ◌≡◌ {A = Written × List ℕ} (r, m) (t, n)
one_saved x y = x.is ∙ sym y.is

stood : (b : Book) (l : List ℕ) (r : Written) (m : List ℕ) → (r, m) ≡ writing b l → r.number ≡ 0 → Stood b r m
unfolding writing pick
stood b l r m e z = go (book_test b) refl (leb (length w) (length l)) e
  where
    w : List ℕ
    w = snapshot_of (model_of b)

    answer : Written × List ℕ → ℕ
    answer x = x.0.number

    go : (t : Bool) → book_test b ≡ t → (u : Bool) → ◌≡◌ {A = Written × List ℕ} (r, m) (pick t (pick u (written 0 (length w), w ++ drop (length w) l) (written (number buffer_short) 0, l)) (written (number book_unsound) 0, l)) → Stood b r m
    go true h true i = record { sound = h; fields = ap (λ (x : Written × List ℕ). take x.0.size x.1) i ∙ take-append_seam w (drop (length w) l) }
    go true h false i = let y : r.number ≡ number buffer_short = ap answer i in absurd (omega (arith, y, z))
    go false h u i = let y : r.number ≡ number book_unsound = ap answer i in absurd (omega (arith, y, z))

-- a book's snapshot is read as that book
module _ (b : Book) (t : book_test b ≡ true) (y : Shelved b) where
  pub reads_again : layout.Fits (model_of b) → reading (snapshot_of (model_of b)) ≡ record { number = 0; at = 0; book = b }
  unfolding reading model_in book_in loaded_as sound_in reading_of snapshot_of
  reads_again f =
      ap loaded_as (ap (closing sound_in (length (snapshot_of (model_of b)))) (pick_on _ _ (names_edition (model_of b))) ∙ read_back layout sound_in (model_of b) f (ap book_test (sym (back y)) ∙ t))
      ∙ ap (λ (x : Book). record { number = 0; at = 0; book = x }) (sym (back y))

  -- and so is what follows its first field, where the book is of the edition that names none
  pub reads_unnamed : (e : b.settings.edition ≡ unnamed_edition) → layout.Fits (model_of b) → reading (drop 11 (snapshot_of (model_of b))) ≡ record { number = 0; at = 0; book = b }
  unfolding reading model_in book_in loaded_as sound_in reading_of snapshot_of layout led
  reads_unnamed e f =
      let m = model_of b in
      let w = (fields unnamed_edition).out m in
      let g : (fields unnamed_edition).Fits m = subst (λ (n : ℕ). (fields n).Fits m) e f.fits in
      let d : drop 11 (layout.out m) ≡ w = drop_at (edition_field (edition_in m)) ((fields (edition_in m)).out m) 11 (length_field 0x10 (edition_in m)) ∙ ap (λ (n : ℕ). (fields n).out m) e in
      ap reading d
      ∙ ap loaded_as (ap (closing sound_in (length w)) (pick_off _ _ (names_none unnamed_edition m)) ∙ read_back (fields unnamed_edition) sound_in m g (ap book_test (sym (back y)) ∙ t))
      ∙ ap (λ (x : Book). record { number = 0; at = 0; book = x }) (sym (back y))

module _ {b : Book} {l : List ℕ} {r : Written} {m : List ℕ} (w : Saved b l r m) (z : r.number ≡ 0) where
  -- READING WHAT WAS WRITTEN GIVES THE SAME BOOK, in each edition
  pub written_read : reading (take r.size m) ≡ record { number = 0; at = 0; book = b }
  written_read = let s = stood b l r m w.is z in ap reading s.fields ∙ reads_again b s.sound (w.shelved z) (w.fits z)

  -- without its first field too, where it is of the edition that names none
  pub older_read : b.settings.edition ≡ unnamed_edition → reading (drop 11 (take r.size m)) ≡ record { number = 0; at = 0; book = b }
  older_read e = let s = stood b l r m w.is z in ap (λ (x : List ℕ). reading (drop 11 x)) s.fields ∙ reads_unnamed b s.sound (w.shelved z) e (w.fits z)
