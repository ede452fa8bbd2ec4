-- A number and its values are those of one answer only: any two answers that a contract here allows coincide. (The buffer at exit stands
-- in an equation by itself.)
use Rattle.std.specs.Prelude.{◌≡◌, refl, ℕ, eqb, Result, Ok, Err}
use Rattle.std.proofs.Common.{sym, ap, ◌∙◌}
use Rattle.refusal.specs.Choice.{pick}
use Rattle.refusal.specs.declared.Refusal.{Refusal}
use Rattle.refusal.specs.Refusal.{number, paused, blacklisted, invalid_input, not_found, already_exists, unauthorized, invalid_transition, offer_expired, allowance_short, balance_short, out_of_range, no_room, journal_malformed, buffer_short, book_unsound}
use Rattle.refusal.specs.RefusalLaws.{refusal_not-0}
use Rattle.refusal.specs.declared.Refusal.TheVariants.{Paused, Blacklisted, InvalidInput, NotFound, AlreadyExists, Unauthorized, InvalidTransition, OfferExpired, AllowanceShort, BalanceShort, OutOfRange, NoRoom, JournalMalformed, BufferShort, BookUnsound}
use Rattle.journal.specs.Answers.{Opening, Reading, found, refused, ended, opening, reading, written}
use Rattle.journal.specs.declared.Opened.{Opened}
use Rattle.journal.specs.declared.Decoded.{Decoded}
use Rattle.journal.specs.declared.Decoded.TheVariants.{Command as Read, Malformed, End}

one : {A B : Type 0} (f : A → B) (g : B → A) → ((x : A) → g (f x) ≡ x) → {x y : A} {b : B} → f x ≡ b → f y ≡ b → x ≡ y
one f g h {x} {y} e d = sym (h x) ∙ ap g (e ∙ sym d) ∙ h y

opened : ℕ → ℕ → Opened
opened e at = record { edition = e; first = at }

pub one_opening : {x y : Result Opened ℕ} {b : Opening} → opening x ≡ b → opening y ≡ b → x ≡ y
unfolding pick opened
one_opening = one opening (λ b. pick (eqb b.answer 0) (Ok (opened b.edition b.first)) (Err b.first)) same
  where
    same : (x : Result Opened ℕ) → pick (eqb (opening x).answer 0) (Ok (opened (opening x).edition (opening x).first)) (Err (opening x).first) ≡ x
    same (Ok h) = refl
    same (Err at) = refl

answer : Reading → Decoded
answer (found c next) = Read c next
answer (refused n at) = Malformed at
answer ended = End

pub one_reading : {x y : Decoded} {b : Reading} → reading x ≡ b → reading y ≡ b → x ≡ y
unfolding answer
one_reading = one reading answer same
  where
    same : (x : Decoded) → answer (reading x) ≡ x
    same (Read c next) = refl
    same (Malformed at) = refl
    same End = refl

-- a refusal's number is that of one refusal only
unfoldable pub refusal_of : ℕ → Refusal
refusal_of n =
    pick (eqb n 1) paused (pick (eqb n 2) blacklisted (pick (eqb n 3) invalid_input (pick (eqb n 4) not_found (pick (eqb n 5) already_exists (pick (eqb n 6) unauthorized (pick (eqb n 7) invalid_transition (pick (eqb n 8) offer_expired (pick (eqb n 9) allowance_short (pick (eqb n 10) balance_short (pick (eqb n 11) out_of_range (pick (eqb n 12) no_room (pick (eqb n 13) journal_malformed (pick (eqb n 14) buffer_short book_unsound)))))))))))))

pub refusal_back : (r : Refusal) → refusal_of (number r) ≡ r
unfolding refusal_of pick
refusal_back Paused = refl
refusal_back Blacklisted = refl
refusal_back InvalidInput = refl
refusal_back NotFound = refl
refusal_back AlreadyExists = refl
refusal_back Unauthorized = refl
refusal_back InvalidTransition = refl
refusal_back OfferExpired = refl
refusal_back AllowanceShort = refl
refusal_back BalanceShort = refl
refusal_back OutOfRange = refl
refusal_back NoRoom = refl
refusal_back JournalMalformed = refl
refusal_back BufferShort = refl
refusal_back BookUnsound = refl

pub one_written : {x y : Result ℕ Refusal} {b : ℕ × ℕ} → written x ≡ b → written y ≡ b → x ≡ y
unfolding pick
one_written = one written (λ b. pick (eqb b.0 0) (Ok b.1) (Err (refusal_of b.0))) same
  where
    same : (x : Result ℕ Refusal) → pick (eqb (written x).0 0) (Ok (written x).1) (Err (refusal_of (written x).0)) ≡ x
    same (Ok n) = refl
    same (Err r) = rw (refusal_not-0 r, refusal_back r)
