-- The journal of a text: its header, its records and its outcome. Assumes nothing.
use Rattle.std.specs.Prelude.{◌≡◌, refl, Bool, true, false, List, ℕ, ◌+◌, length}
use Rattle.std.proofs.Common.{sym, ap, arith}
use Rattle.refusal.specs.ChoiceLaws.{pick_on, pick_off, on, off}
use Rattle.journal.specs.Format.{header_of, record_of}
use Rattle.journal.specs.WriteLaws.{record_sent}
use Rattle.sheet.specs.declared.Pen.{Pen}
use Rattle.sheet.specs.Sheet.{Wrote}
use Rattle.sheet.specs.SheetLaws.{next}
use Rattle.text.specs.Walk.{Item}
use Rattle.text.specs.Telling.{Ended}
use Rattle.text.specs.Reading.{command_at}
use Rattle.text.specs.LineWalk.{Had}
use Rattle.text.specs.Title.{title_in}
use Rattle.text.specs.Answers.{whole, faulty}
use Rattle.text.specs.Journal.{lines_from, lines_in, record_for, bytes_from, fault_line, journal_of}
use Rattle.text.specs.declared.reading.Line.{Line}
use Rattle.text.specs.declared.reading.Title.{Title}

pub record_is : (e : ℕ) {d : Item} {r : Line} (h : Had d r) → record_of e r.tag r.values ≡ record_for e h.parts
unfolding record_for
record_is e h = record_sent e h.parts h.sends

-- the lines past the title
pub lines_titled : (t : List ℕ) {h : Title} → h ≡ title_in t → lines_from h.edition t h.next ≡ lines_in t
unfolding lines_in
lines_titled t e = ap (λ (h : Title). lines_from h.edition t h.next) e

-- the header and all the records
module _ {ink : Bool} (t : List ℕ) {h : Title} (e : h ≡ title_in t) {l m n : List ℕ} {p q r : Pen} (w : Wrote ink (header_of h.edition) l p m q) where
  pub lines_bad : {at j k : ℕ} → k ≡ h.lines + j → Ended ink (length t) (command_at h.edition t) (record_for h.edition) (lines_in t) m q true at j n r
      → Wrote ink (bytes_from (title_in t).edition (lines_in t)) l p n r × ((true ≡ (lines_in t).bad) × (k + 1 ≡ fault_line (title_in t).lines (lines_in t)))
  unfolding bytes_from fault_line
  lines_bad s d = rw (← e) (next w d.all_written, (d.bad, on _ (sym d.bad) (omega (arith, s, d.count))))

  pub lines_end : {at j : ℕ} → Ended ink (length t) (command_at h.edition t) (record_for h.edition) (lines_in t) m q false at j n r
      → Wrote ink (bytes_from (title_in t).edition (lines_in t)) l p n r × ((false ≡ (lines_in t).bad) × (0 ≡ fault_line (title_in t).lines (lines_in t)))
  unfolding bytes_from fault_line
  lines_end d = rw (← e) (next w d.all_written, (d.bad, off _ (sym d.bad) refl))

-- the outcome
pub journal_faulty : (t : List ℕ) → (lines_in t).bad ≡ true → journal_of t ≡ faulty (fault_line (title_in t).lines (lines_in t))
unfolding journal_of
journal_faulty t e = pick_on _ _ e

pub journal_whole : (t : List ℕ) → (lines_in t).bad ≡ false → journal_of t ≡ whole (bytes_from (title_in t).edition (lines_in t))
unfolding journal_of
journal_whole t e = pick_off _ _ e
