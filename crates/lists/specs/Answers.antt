-- What an answer says leaves one answer, so a list query has one possible answer and buffer. Assumes nothing.
use Rattle.std.specs.Prelude.{ℕ, ◌≡◌, refl, Result, Ok, Err, List, [], get_or, eqb}
use Rattle.std.proofs.Common.{sym, ap, ◌∙◌}
use Rattle.refusal.specs.Choice.{pick}
use Rattle.refusal.specs.declared.Refusal.{Refusal}
use Rattle.refusal.specs.declared.Refusal.TheVariants.{Paused, Blacklisted, InvalidInput, NotFound, AlreadyExists, Unauthorized, InvalidTransition, OfferExpired, AllowanceShort, BalanceShort, OutOfRange, NoRoom, JournalMalformed, BufferShort, BookUnsound}
use Rattle.refusal.specs.ChoiceLaws.{pick_off}
use Rattle.refusal.specs.Refusal.{number}
use Rattle.refusal.specs.RefusalLaws.{refusal_not-0}
use Rattle.lists.specs.Listing.{Reply, reply_of, one_value, listed_says}

-- what can be read back is said by one answer alone
pub one_said : {A B : Type 0} (says : A → B) (read : B → A) → ((a : A) → read (says a) ≡ a) → (a b : A) → says a ≡ says b → a ≡ b
one_said says read back a b e = sym (back a) ∙ ap read e ∙ back b

-- the refusal of a number
refusal_at : ℕ → Refusal
refusal_at n =
    pick (eqb n 1) Paused (pick (eqb n 2) Blacklisted (pick (eqb n 3) InvalidInput (pick (eqb n 4) NotFound (pick (eqb n 5) AlreadyExists (pick (eqb n 6) Unauthorized (pick (eqb n 7) InvalidTransition
    (pick (eqb n 8) OfferExpired (pick (eqb n 9) AllowanceShort (pick (eqb n 10) BalanceShort (pick (eqb n 11) OutOfRange (pick (eqb n 12) NoRoom (pick (eqb n 13) JournalMalformed (pick (eqb n 14) BufferShort BookUnsound)))))))))))))

back_refusal : (r : Refusal) → refusal_at (number r) ≡ r
unfolding refusal_at pick
back_refusal Paused = refl
back_refusal Blacklisted = refl
back_refusal InvalidInput = refl
back_refusal NotFound = refl
back_refusal AlreadyExists = refl
back_refusal Unauthorized = refl
back_refusal InvalidTransition = refl
back_refusal OfferExpired = refl
back_refusal AllowanceShort = refl
back_refusal BalanceShort = refl
back_refusal OutOfRange = refl
back_refusal NoRoom = refl
back_refusal JournalMalformed = refl
back_refusal BufferShort = refl
back_refusal BookUnsound = refl

-- a number names one refusal
pub one_refusal : (r s : Refusal) → number r ≡ number s → r ≡ s
one_refusal = one_said number refusal_at back_refusal

-- an answer read back from what it says, where its values can be
module _ {A : Type 0} (values : A → List ℕ) (read : List ℕ → A) (back : (x : A) → read (values x) ≡ x) where
  read_reply : Reply → Result A Refusal
  read_reply p = pick (eqb p.0 0) (Ok (read p.1)) (Err (refusal_at p.0))

  back_reply : (r : Result A Refusal) → read_reply (reply_of values r) ≡ r
  unfolding read_reply pick
  back_reply (Ok x) = ap Ok (back x)
  back_reply (Err r) = pick_off (Ok (read [])) (Err (refusal_at (number r))) (refusal_not-0 r) ∙ ap Err (back_refusal r)

  pub one_reply : (a b : Result A Refusal) → reply_of values a ≡ reply_of values b → a ≡ b
  one_reply = one_said (reply_of values) read_reply back_reply

pub one_listed : (a b : Result ℕ Refusal) → listed_says a ≡ listed_says b → a ≡ b
one_listed = one_reply one_value (λ l. get_or l 0 0) (λ n. refl)

-- two results that the contract of a list query allows
pub one_list : {a b : Result ℕ Refusal} {l m : List ℕ} {z : Reply × List ℕ} → (listed_says a, l) ≡ z → (listed_says b, m) ≡ z → (a ≡ b) × (l ≡ m)
one_list {a} {b} {l} {m} {z} p q =
    let e : ◌≡◌ {A = Reply × List ℕ} (listed_says a, l) (listed_says b, m) = p ∙ sym q in
    (one_listed a b (ap (λ (x : Reply × List ℕ). x.0) e), ap (λ (x : Reply × List ℕ). x.1) e)
