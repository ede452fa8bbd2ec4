-- A command of the code's type: each number is in its field's range, and the numbers make the command again. Assumes nothing.
use Rattle.std.specs.Prelude.{◌≡◌, refl, Bool, true, false, List, [], ◌∷◌, ℕ, ◌^◌, ◌≤◌, ◌<◌, ℤ}
use Rattle.std.proofs.Common.{sym, ap, ◌∙◌, arith}
use Rattle.std.specs.Int.Signed.{mag}
use Rattle.std.specs.Int.{w64}
use mir.Val.{Val}
use Rattle.std.proofs.Math.Facts.{Fits-of_z}
use denote.Laws.{Is}
use denote.Struct.Declared.{row as row-struct}
use denote.Struct.Laws.{owed as owed-struct}
use Rattle.refusal.specs.Choice.{pick}
use Rattle.edition.specs.Edition.{keeps_terms}
use Rattle.money.specs.Range.{bits_of, of_bits}
use Rattle.money.specs.Facts.{back}
use Rattle.terms.specs.declared.Terms.{Terms}
use Rattle.terms.specs.contracts.Terms as terms
use Rattle.terms.proofs.Terms.TheLaws as terms-laws
use Rattle.command.specs.declared.Command.{Command}
use Rattle.command.specs.declared.Command.TheVariants.{OpenAccount, Deposit, Payout, Approve, RegisterInvoice, CancelInvoice, CreateOffer, WithdrawOffer, AcceptOffer, RejectOffer, AmendOffer, CounterOffer, CloseNegotiation, ScheduleRepayment, UpdateStatus, UpdateRepaid, UpdateLenderRepaid, UpdateTotalsRepaid, Pause, Unpause, SetWindow, SetRepaymentAccount, SetBlacklisted, SetSeats}
use Rattle.journal.specs.Answers.{found}
use Rattle.journal.specs.Table.{top_of, named, rows_in, fields_in, fields_of, made_in, made, parts_in, parts_of}
use Rattle.journal.specs.Format.{zeros}
use Rattle.journal.specs.Held.{by_tag, InTypes, values_of, Held}

-- each number is at most its field's largest
abbrev pub Tops : List ℕ → List ℕ → Type 0
Tops [] [] = Unit
Tops [] (x ∷ xs) = ⊥
Tops (f ∷ fs) [] = ⊥
Tops (f ∷ fs) (x ∷ xs) = (x ≤ top_of f) × Tops fs xs

wide : {x : ℕ} → x < 18446744073709551616 → x ≤ 18446744073709551615
wide h = omega arith

thin : {x : ℕ} → x < 4294967296 → x ≤ 4294967295
thin h = omega arith

bits_wide : (z : ℤ) → mag z < 2 ^ 63 → bits_of z ≤ 18446744073709551615
bits_wide z h = wide (Fits-of_z {w = w64} {z = z} (record { sfits = h })).fits

ruleset ranges = (wide, thin, bits_wide)

terms_in_lem : (m : Terms) (vs : List Val) → Is (row-struct terms.the_type) m vs → (mag m.amount < 2 ^ 63) × ((m.rate < 4294967296) × (m.duration < 18446744073709551616))
terms_in_lem m vs p = let f = owed-struct terms.the_type terms-laws.the_laws m vs p in (f.0.1, (f.1.0.1, f.1.1.0.1))

ranged : (kinds : Bool) (c : Command) → InTypes c → Tops (fields_in (rows_in kinds) (parts_in kinds c).0) (parts_in kinds c).1
unfolding InTypes fields_in parts_in top_of pick
ranged kinds (OpenAccount t c) h = search ranges
ranged kinds (Deposit t c a) h = search ranges
ranged kinds (Payout t c a) h = search ranges
ranged kinds (Approve t c a) h = search ranges
ranged kinds (RegisterInvoice t c i a) h = search ranges
ranged kinds (CancelInvoice t c i) h = search ranges
ranged kinds (CreateOffer t c i v m x) h = let k = terms_in_lem m _ h.1.1.1.1.0 in search ranges
ranged kinds (WithdrawOffer t c i) h = search ranges
ranged kinds (AcceptOffer t c i) h = search ranges
ranged kinds (RejectOffer t c i) h = search ranges
ranged kinds (AmendOffer t c i m r) h = let k = terms_in_lem m _ h.1.1.1.0 in search ranges
ranged kinds (CounterOffer t c i m r) h = let k = terms_in_lem m _ h.1.1.1.0 in search ranges
ranged kinds (CloseNegotiation t c i) h = search ranges
ranged true (ScheduleRepayment t c i n k f d) h = search ranges
ranged false (ScheduleRepayment t c i n k f d) h = search ranges
ranged kinds (UpdateStatus t c i k) h = search ranges
ranged kinds (UpdateRepaid t c i a) h = search ranges
ranged kinds (UpdateLenderRepaid t c i k) h = search ranges
ranged kinds (UpdateTotalsRepaid t c a b) h = search ranges
ranged kinds (Pause t s) h = search ranges
ranged kinds (Unpause t s) h = search ranges
ranged kinds (SetWindow t s w) h = search ranges
ranged kinds (SetRepaymentAccount t i s) h = search ranges
ranged kinds (SetBlacklisted t i k s) h = search ranges
ranged kinds (SetSeats t s q x) h = search ranges

pub in_range : (e : ℕ) (c : Command) → Held e c → Tops (fields_of e (parts_of e c).0) (parts_of e c).1
unfolding Held fields_of parts_of
in_range e c h = ranged (keeps_terms e) c h.0

remade : (kinds : Bool) (c : Command) (at next : ℕ) → InTypes c → (kinds ≡ false → (values_of c).kind ≡ 0) → made_in (rows_in kinds) (parts_in kinds c).0 (named (by_tag zeros (fields_in (rows_in kinds) (parts_in kinds c).0) (parts_in kinds c).1)) at next ≡ found c next
unfolding InTypes fields_in made_in named parts_in by_tag pick
remade kinds (OpenAccount t c) at next h z = refl
remade kinds (Deposit t c a) at next h z = ap (λ (z : ℤ). found (Deposit t c z) next) (back a h.1.1.0.1)
remade kinds (Payout t c a) at next h z = ap (λ (z : ℤ). found (Payout t c z) next) (back a h.1.1.0.1)
remade kinds (Approve t c a) at next h z = ap (λ (z : ℤ). found (Approve t c z) next) (back a h.1.1.0.1)
remade kinds (RegisterInvoice t c i a) at next h z = ap (λ (z : ℤ). found (RegisterInvoice t c i z) next) (back a h.1.1.1.0.1)
remade kinds (CancelInvoice t c i) at next h z = refl
remade kinds (CreateOffer t c i v m x) at next h z = ap (λ (z : ℤ). found (CreateOffer t c i v (record { amount = z; rate = m.rate; duration = m.duration }) x) next) (back m.amount (terms_in_lem m _ h.1.1.1.1.0).0)
remade kinds (WithdrawOffer t c i) at next h z = refl
remade kinds (AcceptOffer t c i) at next h z = refl
remade kinds (RejectOffer t c i) at next h z = refl
remade kinds (AmendOffer t c i m r) at next h z = ap (λ (z : ℤ). found (AmendOffer t c i (record { amount = z; rate = m.rate; duration = m.duration }) r) next) (back m.amount (terms_in_lem m _ h.1.1.1.0).0)
remade kinds (CounterOffer t c i m r) at next h z = ap (λ (z : ℤ). found (CounterOffer t c i (record { amount = z; rate = m.rate; duration = m.duration }) r) next) (back m.amount (terms_in_lem m _ h.1.1.1.0).0)
remade kinds (CloseNegotiation t c i) at next h z = refl
remade true (ScheduleRepayment t c i n k f d) at next h z = refl
remade false (ScheduleRepayment t c i n k f d) at next h z = ap (λ (x : ℕ). found (ScheduleRepayment t c i n k f x) next) (sym (z refl))
remade kinds (UpdateStatus t c i k) at next h z = refl
remade kinds (UpdateRepaid t c i a) at next h z = ap (λ (z : ℤ). found (UpdateRepaid t c i z) next) (back a h.1.1.1.0.1)
remade kinds (UpdateLenderRepaid t c i k) at next h z = refl
remade kinds (UpdateTotalsRepaid t c a b) at next h z = ap (λ (z : ℤ). found (UpdateTotalsRepaid t c z (of_bits (bits_of b))) next) (back a h.1.1.0.1) ∙ ap (λ (z : ℤ). found (UpdateTotalsRepaid t c a z) next) (back b h.1.1.1.0.1)
remade kinds (Pause t s) at next h z = refl
remade kinds (Unpause t s) at next h z = refl
remade kinds (SetWindow t s w) at next h z = refl
remade kinds (SetRepaymentAccount t i s) at next h z = refl
remade kinds (SetBlacklisted t i k s) at next h z = refl
remade kinds (SetSeats t s q x) at next h z = refl

pub made_back : (e : ℕ) (c : Command) (at next : ℕ) → Held e c → made e (parts_of e c).0 (named (by_tag zeros (fields_of e (parts_of e c).0) (parts_of e c).1)) at next ≡ found c next
unfolding Held fields_of made parts_of
made_back e c at next h = remade (keeps_terms e) c at next h.0 h.1
