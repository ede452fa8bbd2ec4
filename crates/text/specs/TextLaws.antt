-- The walk over a journal's records. Assumes nothing.
use Rattle.std.specs.Prelude.{◌≡◌, refl, Bool, true, false, List, ℕ, length}
use Rattle.std.proofs.Common.{sym, ap}
use Rattle.refusal.specs.Choice.{pick}
use Rattle.refusal.specs.ChoiceLaws.{pick_on, pick_off}
use Rattle.journal.specs.Answers.{Opening, good_header, bad_header, Reading, found, refused, ended}
use Rattle.journal.specs.Format.{opening_of, read_at}
use Rattle.journal.proofs.Ahead.{Goes, goes}
use Rattle.sheet.specs.declared.Pen.{Pen}
use Rattle.sheet.specs.Sheet.{Wrote}
use Rattle.sheet.specs.SheetLaws.{none, next, retext}
use Rattle.text.specs.Answers.{whole, faulty}
use Rattle.text.specs.Walk.{halted, all_of}
use Rattle.text.specs.WalkLaws.{Onward}
use Rattle.text.specs.Telling.{Ended}
use Rattle.text.specs.Line.{line_of}
use Rattle.text.specs.Title.{title_of}
use Rattle.text.specs.Text.{item_of, records_from, records_of, lines_of, text_of}

onward_by : (e : ℕ) (s : List ℕ) (at : ℕ) (d : Reading) → Goes s at d → Onward (length s) at (item_of e d)
unfolding Goes Onward
onward_by e s at (found c next) k = k
onward_by e s at (refused n p) k = k.1.1
onward_by e s at ended k = k

pub onward : (e : ℕ) (s : List ℕ) (at : ℕ) → Onward (length s) at (item_of e (read_at e s at))
onward e s at = onward_by e s at (read_at e s at) (goes e s at)

-- the header
pub records_headed : (s : List ℕ) {e at : ℕ} → opening_of s ≡ good_header e at → records_from e s at ≡ records_of s
unfolding records_of pick
records_headed s o = rw o

pub records_bare : (s : List ℕ) {at : ℕ} → opening_of s ≡ bad_header at → halted true 0 ≡ records_of s
unfolding records_of pick
records_bare s o = rw o

pub bare : {ink : Bool} (s l : List ℕ) (p : Pen) {at : ℕ} → opening_of s ≡ bad_header at
    → Wrote ink (lines_of (opening_of s).edition (records_of s)) l p l p × ((true ≡ (records_of s).bad) × (◌≡◌ {A = ℕ} 0 (records_of s).at))
unfolding lines_of title_of all_of pick
bare {ink} s l p o = rw (← records_bare s o, o) (none ink l p, (refl, refl))

-- the title and all the lines
pub told : {ink : Bool} (s : List ℕ) {e first : ℕ} {l m n : List ℕ} {p q r : Pen} {b : Bool} {at k : ℕ} → opening_of s ≡ good_header e first → Wrote ink (title_of e) l p m q
    → Ended ink (length s) (λ (i : ℕ). item_of e (read_at e s i)) (line_of e) (records_of s) m q b at k n r
    → Wrote ink (lines_of (opening_of s).edition (records_of s)) l p n r × ((b ≡ (records_of s).bad) × (at ≡ (records_of s).at))
unfolding lines_of
told s o w d = (retext (next w d.all_written) (ap (λ (h : Opening). lines_of h.edition (records_of s)) (sym o)), (d.bad, d.place))

-- the outcome
pub text_faulty : (s : List ℕ) → (records_of s).bad ≡ true → text_of s ≡ faulty (records_of s).at
unfolding text_of
text_faulty s e = pick_on _ _ e

pub text_whole : (s : List ℕ) → (records_of s).bad ≡ false → text_of s ≡ whole (lines_of (opening_of s).edition (records_of s))
unfolding text_of
text_whole s e = pick_off _ _ e
