-- The records of a journal are what writing their commands gives, and are read back. Assumes nothing.
use Rattle.std.specs.Prelude.{◌≡◌, refl, Bool, true, false, List, [], ◌∷◌, ◌++◌, ℕ, zero, suc, ◌+◌, ◌^◌, ◌<◌, length, get_or}
use Rattle.std.proofs.Common.{sym, ap, ◌∙◌, arith}
use Rattle.refusal.specs.Choice.{pick}
use Rattle.command.specs.declared.Command.{Command}
use Rattle.command.specs.declared.Command.TheVariants.{OpenAccount, Deposit, Payout, Approve, RegisterInvoice, CancelInvoice, CreateOffer, WithdrawOffer, AcceptOffer, RejectOffer, AmendOffer, CounterOffer, CloseNegotiation, ScheduleRepayment, UpdateStatus, UpdateRepaid, UpdateLenderRepaid, UpdateTotalsRepaid, Pause, Unpause, SetWindow, SetRepaymentAccount, SetBlacklisted, SetSeats}
use Rattle.wire.specs.NumberLaws.{Bytes}
use Rattle.journal.specs.Answers.{Reading, found, refused, ended}
use Rattle.journal.specs.Table.{is_narrow, top_of, named, fields_of, made_in, made, parts_in as parts_with, parts_of}
use Rattle.journal.specs.Format.{zeros, read_at, bytes_for}
use Rattle.journal.specs.Held.{by_tag}
use Rattle.journal.specs.HeldLaws.{Tops}
use Rattle.journal.specs.Faithful.{made_of}
use Rattle.journal.proofs.Canonical.{canonical}
use Rattle.journal.specs.RoundTrip.{parts_back}
use Rattle.journal.specs.ReadLaws.{at-end}
use Rattle.text.specs.Names.{commands, word_in}
use Rattle.text.specs.NameLaws.{Each, ◌▸◌, each, is_command_lem}
use Rattle.text.specs.FieldLaws.{command_fields}
use Rattle.text.specs.Walk.{item}
use Rattle.text.specs.Text.{item_of}
use Rattle.text.specs.TextLaws.{onward}
use Rattle.text.specs.Journal.{record_for}
use Rattle.text.specs.Trip.{Stands, Reads, Writes}
use Rattle.text.specs.LineWay.{Good, parts_in, past_in, is_item}

-- each command's tag has a name
tag_word : (e : ℕ) (c : Command) → 0 < length (word_in commands (parts_of e c).0)
unfolding word_in parts_of parts_with pick
tag_word e (OpenAccount t c) = omega arith
tag_word e (Deposit t c a) = omega arith
tag_word e (Payout t c a) = omega arith
tag_word e (Approve t c a) = omega arith
tag_word e (RegisterInvoice t c i a) = omega arith
tag_word e (CancelInvoice t c i) = omega arith
tag_word e (CreateOffer t c i v m x) = omega arith
tag_word e (WithdrawOffer t c i) = omega arith
tag_word e (AcceptOffer t c i) = omega arith
tag_word e (RejectOffer t c i) = omega arith
tag_word e (AmendOffer t c i m r) = omega arith
tag_word e (CounterOffer t c i m r) = omega arith
tag_word e (CloseNegotiation t c i) = omega arith
tag_word e (ScheduleRepayment t c i n k f d) = omega arith
tag_word e (UpdateStatus t c i k) = omega arith
tag_word e (UpdateRepaid t c i a) = omega arith
tag_word e (UpdateLenderRepaid t c i k) = omega arith
tag_word e (UpdateTotalsRepaid t c a b) = omega arith
tag_word e (Pause t s) = omega arith
tag_word e (Unpause t s) = omega arith
tag_word e (SetWindow t s w) = omega arith
tag_word e (SetRepaymentAccount t i s) = omega arith
tag_word e (SetBlacklisted t i k s) = omega arith
tag_word e (SetSeats t s h x) = omega arith

-- each name's tag makes a command of any numbers
abbrev Makes : ℕ → ℕ → Type 0
Makes e t = (xs : List ℕ) (at next : ℕ) → (c : Command) × (made e t (named xs) at next ≡ found c next)

all_make : (e : ℕ) → Each (Makes e) commands
unfolding made made_in pick
all_make e =
    (λ xs at next. (_, refl))
    ▸ (λ xs at next. (_, refl))
    ▸ (λ xs at next. (_, refl))
    ▸ (λ xs at next. (_, refl))
    ▸ (λ xs at next. (_, refl))
    ▸ (λ xs at next. (_, refl))
    ▸ (λ xs at next. (_, refl))
    ▸ (λ xs at next. (_, refl))
    ▸ (λ xs at next. (_, refl))
    ▸ (λ xs at next. (_, refl))
    ▸ (λ xs at next. (_, refl))
    ▸ (λ xs at next. (_, refl))
    ▸ (λ xs at next. (_, refl))
    ▸ (λ xs at next. (_, refl))
    ▸ (λ xs at next. (_, refl))
    ▸ (λ xs at next. (_, refl))
    ▸ (λ xs at next. (_, refl))
    ▸ (λ xs at next. (_, refl))
    ▸ (λ xs at next. (_, refl))
    ▸ (λ xs at next. (_, refl))
    ▸ (λ xs at next. (_, refl))
    ▸ (λ xs at next. (_, refl))
    ▸ (λ xs at next. (_, refl))
    ▸ (λ xs at next. (_, refl))
    ▸ tt

makes : (e t : ℕ) → 0 < length (word_in commands t) → Makes e t
makes e t h = each (Makes e) commands t (all_make e) h

-- ---- what stands in a journal

stands_by : (e : ℕ) (s : List ℕ) (p : ℕ) (d : Reading) (x : ℕ × List ℕ) (n : ℕ) → Bytes s → read_at e s p ≡ d → item_of e d ≡ item x n → Stands (record_for e) (Good e) s p x n
unfolding record_for bytes_for
stands_by e s p (found c m) x n k r q =
    let w = canonical e s p c m k r in
    let a : parts_of e c ≡ x = ap parts_in q in
    let b : m ≡ n = ap past_in q in
    rw (← a) record { past = sym b ∙ w.past; bytes = w.bytes; good = (tag_word e c, rw (command_fields e (parts_of e c).0 (is_command_lem (parts_of e c).0 (tag_word e c))) w.range) }
stands_by e s p (refused m o) x n k r q = let z = ap is_item q in let y : ◌≡◌ {A = ℕ} 0 1 = cc in absurd (omega arith)
stands_by e s p ended x n k r q = let z = ap is_item q in let y : ◌≡◌ {A = ℕ} 0 1 = cc in absurd (omega arith)

-- ---- what is written is read

top_most : (f : ℕ) → top_of f < 2 ^ 64
unfolding top_of pick
top_most f = go (is_narrow f)
  where
    go : (t : Bool) → pick t 4294967295 18446744073709551615 < 2 ^ 64
    go true = omega arith
    go false = omega arith

tops_long : (fs xs : List ℕ) → Tops fs xs → length xs ≡ length fs
tops_long [] [] h = refl
tops_long [] (x ∷ xs) h = absurd h
tops_long (f ∷ fs) [] h = absurd h
tops_long (f ∷ fs) (x ∷ xs) h = ap suc (tops_long fs xs h.1)

tops_small : (fs xs : List ℕ) → Tops fs xs → (k : ℕ) → get_or xs k 0 < 2 ^ 64
tops_small [] [] h k = omega arith
tops_small [] (x ∷ xs) h k = absurd h
tops_small (f ∷ fs) [] h k = absurd h
tops_small (f ∷ fs) (x ∷ xs) h zero = omega (arith, h.0, top_most f)
tops_small (f ∷ fs) (x ∷ xs) h (suc k) = tops_small fs xs h.1 k

record_back : (e : ℕ) (x : ℕ × List ℕ) (p r : List ℕ) → Good e x → item_of e (read_at e (p ++ (record_for e x ++ r)) (length p)) ≡ item x (length p + length (record_for e x))
unfolding record_for
record_back e x p r g =
    let n = length p + length (record_for e x) in
    let o : Tops (fields_of e x.0) x.1 = rw (command_fields e x.0 (is_command_lem x.0 g.0)) at g.1 in
    let c = makes e x.0 g.0 (by_tag zeros (fields_of e x.0) x.1) (length p) n in
    let m = made_of e x.0 (length p) n n x.1 c.0 (tops_long (fields_of e x.0) x.1 o) (tops_small (fields_of e x.0) x.1 o) c.1 in
    ap (item_of e) (parts_back e x.0 x.1 p r o ∙ c.1) ∙ ap (λ (y : ℕ × List ℕ). item y n) m.1

pub record_reads : (e : ℕ) → Reads (record_for e) (λ (s : List ℕ) (p : ℕ). item_of e (read_at e s p)) (Good e) Bytes
record_reads e = record { ahead = onward e; stands = λ s p x n k q. stands_by e s p (read_at e s p) x n k refl q }

pub record_writes : (e : ℕ) → Writes (record_for e) (λ (s : List ℕ) (p : ℕ). item_of e (read_at e s p)) (Good e)
record_writes e = record { ahead = onward e; back = record_back e; over = λ s p h. ap (item_of e) (sym (at-end e s p h)) }
