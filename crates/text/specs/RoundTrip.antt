-- The two translations undo each other. Assumes nothing.
use Rattle.std.specs.Prelude.{◌≡◌, refl, Bool, true, false, ℕ, length, take, eqb}
use Rattle.std.proofs.Common.{sym, ◌∙◌, arith, eqb-true}
use Rattle.std.proofs.Math.Path.{ap}
use mathlib.Core.List.{List, [], ◌++◌}
use Rattle.refusal.specs.Choice.{pick}
use Rattle.edition.specs.Edition.{listed}
use Rattle.wire.specs.NumberLaws.{Bytes}
use Rattle.journal.specs.Answers.{Opening, good_header}
use Rattle.journal.specs.Format.{header_of, opening_of, read_at}
use Rattle.journal.specs.RoundTrip.{header_long, header_back}
use Rattle.journal.proofs.Canonical.{header_canonical}
use Rattle.text.specs.Line.{line_of}
use Rattle.text.specs.Walk.{Walk, halted, walk_by, all_of}
use Rattle.text.specs.Answers.{Outcome, whole, faulty}
use Rattle.text.specs.Title.{title_of, title_in}
use Rattle.text.specs.TitleLaws.{heads, title_back}
use Rattle.text.specs.Text.{item_of, records_from, records_of, lines_of, text_of}
use Rattle.text.specs.TextLaws.{records_headed, text_whole}
use Rattle.text.specs.Journal.{lines_from, lines_in, record_for, bytes_from, fault_line, journal_of}
use Rattle.text.specs.Trip.{AllGood, take_drop, read_written, written_read}
use Rattle.text.specs.LineWay.{Good, line_reads}
use Rattle.text.specs.RecordWay.{record_reads, record_writes}
use Rattle.text.specs.LineBack.{line_writes}
use Rattle.text.specs.JournalLaws.{journal_whole}

-- an outcome that is whole
abbrev is_whole : Outcome → Bool
is_whole (whole w) = true
is_whole (faulty n) = false

abbrev whole_of : Outcome → List ℕ
whole_of (whole w) = w
whole_of (faulty n) = []

sound : (b : Bool) (n : ℕ) (v w : List ℕ) → pick b (faulty n) (whole v) ≡ whole w → (b ≡ false) × (v ≡ w)
unfolding pick
sound true n v w e = let z = ap is_whole e in let y : ◌≡◌ {A = ℕ} 0 1 = cc in absurd (omega arith)
sound false n v w e = (refl, ap whole_of e)

-- the journal of commands reads as those commands
module _ (e : ℕ) (xs : List (ℕ × List ℕ)) (k : listed e ≡ true) (g : AllGood (Good e) xs) where
  opens : opening_of (header_of e ++ all_of (record_for e) xs) ≡ good_header e 5
  opens = header_back e (all_of (record_for e) xs) k

  header_read : ((records_of (header_of e ++ all_of (record_for e) xs)).bad ≡ false) × ((records_of (header_of e ++ all_of (record_for e) xs)).items ≡ xs)
  unfolding records_from
  header_read =
      let s = header_of e ++ all_of (record_for e) xs in
      let w = written_read (record_writes e) (header_of e) xs g in
      let q : walk_by (length s) (λ (j : ℕ). item_of e (read_at e s j)) (length (header_of e)) ≡ records_of s = ap (λ (n : ℕ). walk_by (length s) (λ (j : ℕ). item_of e (read_at e s j)) n) (header_long e) ∙ records_headed s opens in
      (ap (λ (v : Walk). v.bad) (sym q) ∙ w.0, ap (λ (v : Walk). v.items) (sym q) ∙ w.1)

  header_text : text_of (header_of e ++ all_of (record_for e) xs) ≡ whole (title_of e ++ all_of (line_of e) xs)
  unfolding lines_of
  header_text =
      let s = header_of e ++ all_of (record_for e) xs in
      text_whole s header_read.0 ∙ ap (λ (o : Opening). whole (lines_of o.edition (records_of s))) opens ∙ ap (λ (ys : List (ℕ × List ℕ)). whole (title_of e ++ all_of (line_of e) ys)) header_read.1

-- THE TEXT OF THE JOURNAL OF A TEXT IS THAT TEXT
pub text_again : (t s : List ℕ) → journal_of t ≡ whole s → text_of s ≡ whole t
unfolding journal_of lines_in lines_from bytes_from
text_again t s q =
    let h = title_in t in
    let e = h.edition in
    let j = sound (lines_in t).bad (fault_line h.lines (lines_in t)) (bytes_from e (lines_in t)) s q in
    let k = heads t in
    let w = read_written (line_reads e) t h.next tt j.0 in
    let b : title_of e ++ all_of (line_of e) (lines_in t).items ≡ t = ap (λ (l : List ℕ). l ++ all_of (line_of e) (lines_in t).items) (sym k.bytes) ∙ ap (λ (l : List ℕ). take h.next t ++ l) (sym w.is) ∙ take_drop h.next t in
    ap text_of (sym j.1) ∙ header_text e (lines_in t).items k.known w.good ∙ ap whole b

-- a journal without a fault has its header
opened_by : (b : Bool) (w : Walk) → (pick b w (halted true 0)).bad ≡ false → b ≡ true
unfolding pick
opened_by true w e = refl
opened_by false w e = sym e

opened : (s : List ℕ) → (records_of s).bad ≡ false → opening_of s ≡ good_header (opening_of s).edition (opening_of s).first
unfolding records_of
opened s e =
    let o = opening_of s in
    let b : eqb o.answer 0 ≡ true = opened_by (eqb o.answer 0) (records_from o.edition s o.first) e in
    ap (λ (n : ℕ). record { answer = n; edition = o.edition; first = o.first }) (eqb-true o.answer 0 b)

-- the text of commands reads as those commands
title_read : (e : ℕ) (xs : List (ℕ × List ℕ)) → listed e ≡ true → AllGood (Good e) xs → journal_of (title_of e ++ all_of (line_of e) xs) ≡ whole (header_of e ++ all_of (record_for e) xs)
unfolding lines_in lines_from bytes_from
title_read e xs k g =
    let t = title_of e ++ all_of (line_of e) xs in
    let h = title_back e xs k g in
    let w = written_read (line_writes e) (title_of e) xs g in
    let l : lines_from e t (length (title_of e)) ≡ lines_in t = ap (λ (i : ℕ). lines_from i t (length (title_of e))) (sym h.0) ∙ ap (λ (n : ℕ). lines_from (title_in t).edition t n) (sym h.1) in
    journal_whole t (ap (λ (v : Walk). v.bad) (sym l) ∙ w.0)
    ∙ ap (λ (i : ℕ). whole (header_of i ++ all_of (record_for i) (lines_in t).items)) h.0
    ∙ ap (λ (ys : List (ℕ × List ℕ)). whole (header_of e ++ all_of (record_for e) ys)) (ap (λ (v : Walk). v.items) (sym l) ∙ w.1)

-- THE JOURNAL OF THE TEXT OF A JOURNAL IS THAT JOURNAL
pub journal_again : (s t : List ℕ) → Bytes s → text_of s ≡ whole t → journal_of t ≡ whole s
unfolding text_of lines_of records_from
journal_again s t k q =
    let e = (opening_of s).edition in
    let j = sound (records_of s).bad (records_of s).at (lines_of e (records_of s)) t q in
    let o = opened s j.0 in
    let h = header_canonical s e (opening_of s).first k o in
    let f : records_from e s 5 ≡ records_of s = ap (records_from e s) (sym h.first) ∙ records_headed s o in
    let w = read_written (record_reads e) s 5 k (ap (λ (v : Walk). v.bad) f ∙ j.0) in
    let xs = (records_from e s 5).items in
    let i : title_of e ++ all_of (line_of e) xs ≡ t = ap (λ (v : Walk). title_of e ++ all_of (line_of e) v.items) f ∙ j.1 in
    let b : header_of e ++ all_of (record_for e) xs ≡ s = ap (λ (l : List ℕ). l ++ all_of (record_for e) xs) (sym h.bytes) ∙ ap (λ (l : List ℕ). take 5 s ++ l) (sym w.is) ∙ take_drop 5 s in
    ap journal_of (sym i) ∙ title_read e xs h.known w.good ∙ ap whole b
