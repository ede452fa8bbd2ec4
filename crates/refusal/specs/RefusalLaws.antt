-- A refusal is no acceptance, and how a function that gives the first refusal answers.
use Rattle.std.specs.Prelude.{ℕ, ◌≡◌, refl, Bool, true, false, List, [], ◌∷◌, eqb}
use Rattle.refusal.specs.declared.Refusal.{Refusal}
use Rattle.refusal.specs.declared.Refusal.TheVariants.{Paused, Blacklisted, InvalidInput, NotFound, AlreadyExists, Unauthorized, InvalidTransition, OfferExpired, AllowanceShort, BalanceShort, OutOfRange, NoRoom, JournalMalformed, BufferShort, BookUnsound}
use Rattle.refusal.specs.Refusal.{number, Check, ◌gives◌, first}
use Rattle.refusal.specs.ChoiceLaws.{on, off}

-- a refusal is no acceptance
pub refusal_not-0 : (n : Refusal) → eqb (number n) 0 ≡ false
refusal_not-0 Paused = refl
refusal_not-0 Blacklisted = refl
refusal_not-0 InvalidInput = refl
refusal_not-0 NotFound = refl
refusal_not-0 AlreadyExists = refl
refusal_not-0 Unauthorized = refl
refusal_not-0 InvalidTransition = refl
refusal_not-0 OfferExpired = refl
refusal_not-0 AllowanceShort = refl
refusal_not-0 BalanceShort = refl
refusal_not-0 OutOfRange = refl
refusal_not-0 NoRoom = refl
refusal_not-0 JournalMalformed = refl
refusal_not-0 BufferShort = refl
refusal_not-0 BookUnsound = refl

-- how a function that gives the first refusal answers: a check that fails, one that passes, and none left
pub fails : {t : Bool} (n : Refusal) (l : List Check) → t ≡ true → number n ≡ first ((t gives n) ∷ l)
unfolding first
fails {t} n l e = on _ e refl

pub passes : {t : Bool} {z : ℕ} (n : Refusal) (l : List Check) → t ≡ false → z ≡ first l → z ≡ first ((t gives n) ∷ l)
unfolding first
passes {t} {z} n l e h = off _ e h

pub none_left : ◌≡◌ {A = ℕ} 0 (first [])
unfolding first
none_left = refl
