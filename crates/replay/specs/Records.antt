-- What a record that is read is: 25 bytes at least, and a command that lets in no id past 64 bits. Assumes nothing.
use Rattle.std.specs.Prelude.{◌≡◌, refl, Bool, true, false, ◌&&◌, List, [], ◌∷◌, ℕ, ◌+◌, ◌*◌, ◌≤◌, ◌<◌, eqb, leb, length, get_or, drop, Some}
use Rattle.std.proofs.Common.{arith, leb-true}
use Rattle.refusal.specs.Choice.{pick}
use Rattle.table.specs.Tables.{Table, adjust, insert, keys}
use Rattle.table.specs.Deciding.{Is, is_true, is_false, decide}
use Rattle.table.proofs.TableLaws.{keys_adjust}
use Rattle.command.specs.Shape.{Shape, opens, account, registers, cancels, creates, offer, accepts, amends, counters, totals, settings, shape_of}
use Rattle.wire.specs.Field.{begins}
use Rattle.wire.specs.FieldLaws.{and_left, and_right}
use Rattle.journal.specs.Answers.{Reading, found, refused, ended, malformed}
use Rattle.edition.specs.Edition.{keeps_terms}
use Rattle.journal.specs.Table.{Row, rows_in, rows, top_of, named, fields_in, fields_of, made_in, made}
use Rattle.journal.specs.Format.{well_in, numbers_in, zeros, gathered_in, record_at, read_at}
use Rattle.journal.specs.ReadLaws.{all_tops}
use Rattle.account.specs.declared.Account.{Account}
use Rattle.account.specs.Account.{no_account}
use Rattle.sheet.specs.Size.{Small}
use Rattle.rules.specs.Model.{Model}
use Rattle.rules.specs.Rules.{settling, concluding, agreeing, ruled}
use Rattle.replay.specs.Bounded.{Low}

-- ── Ids below 2^64 ────────────────────────────────────────────────
same : {t : Table Account} → Low t → (i : ℕ) (f : Account → Account) → Low (adjust t i f)
same {t} k i f = record { ids = rw (keys_adjust t i f) k.ids }

small_insert : (t : Table Account) (i : ℕ) (r : Account) → i < 18446744073709551616 → Small (keys t) → Small (keys (insert t i r))
unfolding insert keys
small_insert [] i r h k = (h, tt)
small_insert (e ∷ t) i r h k = go (decide (leb e.0 i)) (small_insert t i r h k.1)
  where
    go : Is (leb e.0 i) → Small (keys (insert t i r)) → Small (keys (insert (e ∷ t) i r))
    go (is_true l) g = rw l (k.0, g)
    go (is_false l) g = rw l (h, k)

settled : (m : Model) (now o : ℕ) → Low m.accounts → Low (settling now o m).done.accounts
unfolding settling
settled m now o k = same (same (same k _ _) _ _) _ _

agreed : (b : Bool) (m : Model) (now o : ℕ) → Low m.accounts → Low (agreeing b now o m).done.accounts
unfolding agreeing concluding pick
agreed true m now o k = settled m now o k
agreed false m now o k = k

-- an account that a command opens has such an id
unfoldable pub OpensLow : Shape → Type 0
OpensLow (opens a) = a < 18446744073709551616
OpensLow (account a u) = Unit
OpensLow (registers a i x) = Unit
OpensLow (cancels a i) = Unit
OpensLow (creates a o i t e) = Unit
OpensLow (offer o u) = Unit
OpensLow (accepts now a o) = Unit
OpensLow (amends now a o t n) = Unit
OpensLow (counters now a o t n) = Unit
OpensLow (totals a x f) = Unit
OpensLow (settings u) = Unit

pub low_ruled : (m : Model) (c : Shape) → OpensLow c → Low m.accounts → Low (ruled m c).done.accounts
unfolding ruled OpensLow
low_ruled m (opens a) h k = record { ids = small_insert m.accounts a no_account h k.ids }
low_ruled m (account a u) h k = same k _ _
low_ruled m (registers a i x) h k = k
low_ruled m (cancels a i) h k = k
low_ruled m (creates a o i t e) h k = same k _ _
low_ruled m (offer o u) h k = k
low_ruled m (accepts now a o) h k = settled m now o k
low_ruled m (amends now a o t n) h k = agreed _ _ now o (same k _ _)
low_ruled m (counters now a o t n) h k = agreed _ _ now o k
low_ruled m (totals a x f) h k = k
low_ruled m (settings u) h k = k

-- ── The table's rows ──────────────────────────────────────────────
-- v holds the numbers of the fields at the places of their tags, 02 the caller's
abbrev Fair : Row → Type 0
Fair r = (v : List ℕ) → get_or v 0x02 0 < 18446744073709551616 → OpensLow (shape_of (r.make (named v)))

infixr 5 ◌▸◌
data Each : List Row → Type 0 where
  none : Each []
  ◌▸◌ : {r : Row} {rs : List Row} → Fair r → Each rs → Each (r ∷ rs)

all_fair : (e : ℕ) → Each (rows e)
unfolding shape_of OpensLow named
all_fair e =
    (λ v h. h)
    ▸ (λ v h. tt)
    ▸ (λ v h. tt)
    ▸ (λ v h. tt)
    ▸ (λ v h. tt)
    ▸ (λ v h. tt)
    ▸ (λ v h. tt)
    ▸ (λ v h. tt)
    ▸ (λ v h. tt)
    ▸ (λ v h. tt)
    ▸ (λ v h. tt)
    ▸ (λ v h. tt)
    ▸ (λ v h. tt)
    ▸ (λ v h. tt)
    ▸ (λ v h. tt)
    ▸ (λ v h. tt)
    ▸ (λ v h. tt)
    ▸ (λ v h. tt)
    ▸ (λ v h. tt)
    ▸ (λ v h. tt)
    ▸ (λ v h. tt)
    ▸ (λ v h. tt)
    ▸ (λ v h. tt)
    ▸ (λ v h. tt)
    ▸ none

-- each has two fields at least
abbrev all_two : List Row → Bool
all_two [] = true
all_two (r ∷ rs) = leb 2 (length r.fields) && all_two rs

all_two_lem : (kinds : Bool) → all_two (rows_in kinds) ≡ true
unfolding pick
all_two_lem true = refl
all_two_lem false = refl

-- ── What is read ──────────────────────────────────────────────────
unfoldable pub Weighs : ℕ → Reading → Type 0
Weighs at (found c next) = (at + 25 ≤ next) × OpensLow (shape_of c)
Weighs at (refused n p) = Unit
Weighs at ended = Unit

made_weighs : (rs : List Row) (t : ℕ) (v : List ℕ) (at next : ℕ) → Each rs → all_two rs ≡ true → get_or v 0x02 0 < 18446744073709551616
    → (2 ≤ length (fields_in rs t) → at + 25 ≤ next) → Weighs at (made_in rs t (named v) at next)
unfolding made_in fields_in Weighs pick
made_weighs [] t v at next a e h w = tt
made_weighs (r ∷ rs) t v at next (a ▸ l) e h w = go (eqb t r.tag) w (made_weighs rs t v at next l (and_right (leb 2 (length r.fields)) (all_two rs) e) h)
  where
    go : (b : Bool) → (2 ≤ length (pick b r.fields (fields_in rs t)) → at + 25 ≤ next) → ((2 ≤ length (fields_in rs t) → at + 25 ≤ next) → Weighs at (made_in rs t (named v) at next))
        → Weighs at (pick b (found (r.make (named v)) next) (made_in rs t (named v) at next))
    go true w i = (w (leb-true 2 (length r.fields) (and_left (leb 2 (length r.fields)) (all_two rs) e)), a v h)
    go false w i = i w

caller_low : (fs b : List ℕ) → well_in fs b ≡ true → get_or (numbers_in zeros fs b) 0x02 0 < 18446744073709551616
unfolding top_of gathered_in pick
caller_low fs b e =
    let h : gathered_in fs b ≡ Some (numbers_in zeros fs b) = rw e refl in
    omega (arith, all_tops fs b h 0x02)

record_weighs : (e t : ℕ) (b : List ℕ) (at : ℕ) → Weighs at (record_at e t (fields_of e t) b at)
unfolding record_at made fields_of Weighs pick
record_weighs e t b at = go (begins t (11 * length fs) b && well_in fs (drop 3 b)) refl
  where
    fs : List ℕ
    fs = fields_of e t

    v : List ℕ
    v = numbers_in zeros fs (drop 3 b)

    go : (w : Bool) → begins t (11 * length fs) b && well_in fs (drop 3 b) ≡ w → Weighs at (pick w (made e t (named v) at (at + (3 + 11 * length fs))) (malformed at))
    go true q = made_weighs (rows e) t v at (at + (3 + 11 * length fs)) (all_fair e) (all_two_lem (keeps_terms e)) (caller_low fs (drop 3 b) (and_right (begins t (11 * length fs) b) _ q)) (λ h. omega arith)
    go false q = tt

pub weighs : (e : ℕ) (s : List ℕ) (at : ℕ) → Weighs at (read_at e s at)
unfolding read_at Weighs pick
weighs e s at = go (leb (length s) at)
  where
    go : (w : Bool) → Weighs at (pick w ended (record_at e (get_or s at 0) (fields_of e (get_or s at 0)) (drop at s) at))
    go true = tt
    go false = record_weighs e (get_or s at 0) (drop at s) at
