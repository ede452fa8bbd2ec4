-- What the crates above need of the rows: which row is zero, and that every rule leaves a sound row sound.
use Rattle.std.specs.Prelude.{ℕ, ◌+◌, ◌≡◌, refl, Bool, true, false, not, [], ◌∷◌, leb, ℤ, pos, neg_ℤ, ◌-ℤ◌}
use Rattle.std.proofs.Common.{arith, sym, ap, ◌∙◌, rules, eqb-true, leb-false, ltb-false, le-leb}
use Rattle.std.proofs.lemmas.Bool.{not-true, not-false}
use Rattle.money.specs.Range.{count_limit, in_total, movable}
use Rattle.money.specs.Moves.{moves_in}
use Rattle.money.specs.Facts.{both, zero_is}
use Rattle.refusal.specs.RuleLaws.{KeepsTest, passed}
use Rattle.terms.specs.declared.Terms.{Terms}
use Rattle.account.specs.declared.Purse.{Purse}
use Rattle.account.specs.declared.Account.{Account}
use Rattle.account.specs.Seen.{SeenAccount}
use Rattle.account.specs.Purse.{no_purse, gains, purse_sound, purse_zero}
use Rattle.account.specs.Account.{no_account, with_purse, account_sound, account_zero}
use Rattle.account.specs.Rules.{deposit_of, payout_of, approve_of, offer_of, reoffer_of, debit_of, credit_of, accept_of, lender_repaid_of, blacklist_of}

zeros : {a b c d : ℤ} → a ≡ pos 0 → b ≡ pos 0 → c ≡ pos 0 → d ≡ pos 0
    → ◌≡◌ {A = Purse} (record { balance = a; allowance = b; offered = c; accepted = d }) no_purse
zeros e f g h = cc

purse_zero_lem : (p : Purse) → purse_zero p ≡ true → p ≡ no_purse
unfolding purse_zero
purse_zero_lem p e =
    let c = both _ _ e in
    let b = both _ _ c.0 in
    let a = both _ _ b.0 in
    zeros (zero_is _ a.0) (zero_is _ a.1) (zero_is _ b.1) (zero_is _ c.1)

bare : {a : Purse} {p q : ℕ} {x : Bool} → a ≡ no_purse → p ≡ 0 → q ≡ 0 → x ≡ false
    → ◌≡◌ {A = Account} (record { purse = a; pending = p; repaid = q; blacklisted = x }) no_account
bare e f g h = cc

-- a zero row is the row of a new account, and that one is zero and sound
pub account_zero_lem : (r : Account) → account_zero r ≡ true → r ≡ no_account
unfolding account_zero
account_zero_lem r e =
    let c = both _ _ e in
    let b = both _ _ c.0 in
    let a = both _ _ b.0 in
    bare (purse_zero_lem _ a.0) (eqb-true _ _ a.1) (eqb-true _ _ b.1) (not-true _ c.1)

pub no_account_zero : account_zero no_account ≡ true
unfolding account_zero purse_zero
no_account_zero = refl

pub no_account_sound : account_sound no_account ≡ true
unfolding account_sound purse_sound
no_account_sound = refl

-- what soundness says of each number of a row
pub record Ranges (r : Account) : Type 0 where
  pub balance_in : in_total r.purse.balance ≡ true
  pub allowance_in : in_total r.purse.allowance ≡ true
  pub offered_in : in_total r.purse.offered ≡ true
  pub accepted_in : in_total r.purse.accepted ≡ true
  pub pending_in : leb r.pending count_limit ≡ true
  pub repaid_in : leb r.repaid count_limit ≡ true

pub sound_ranges : {r : Account} → account_sound r ≡ true → Ranges r
unfolding account_sound purse_sound
sound_ranges {r} e =
    let f = both _ _ e in
    let d = both _ _ f.0 in
    let c = both _ _ d.0 in
    let b = both _ _ c.0 in
    let a = both _ _ b.0 in
    record { balance_in = a.0; allowance_in = a.1; offered_in = b.1; accepted_in = c.1; pending_in = d.1; repaid_in = f.1 }

pub ranges_sound : {r : Account} → Ranges r → account_sound r ≡ true
unfolding account_sound purse_sound
ranges_sound {r} s = rw (s.balance_in, s.allowance_in, s.offered_in, s.accepted_in, s.pending_in, s.repaid_in)

gains_kept : (r : Account) (x : ℤ) → account_sound r ≡ true → not (movable r.purse.balance x) ≡ false → account_sound (with_purse (gains x) r) ≡ true
gains_kept r x h e =
    let s = sound_ranges h in
    let a = moves_in r.purse.balance x e in
    ranges_sound (search rules)

pub deposit_keeps : (r : Account) (x : ℤ) → KeepsTest account_sound r (deposit_of r x)
deposit_keeps r x h e = gains_kept r x h (passed _ _ _ (passed _ _ _ e).1).0

pub payout_keeps : (r : Account) (x : ℤ) → KeepsTest account_sound r (payout_of r x)
payout_keeps r x h e = gains_kept r (neg_ℤ x) h (passed _ _ _ (passed _ _ _ e).1).0

pub credit_keeps : (r : Account) (t : Terms) → KeepsTest account_sound r (credit_of r t)
credit_keeps r t h e = gains_kept r t.amount h (passed _ _ _ e).0

pub approve_keeps : (r : Account) (x : ℤ) → KeepsTest account_sound r (approve_of r x)
approve_keeps r x h e =
    let s = sound_ranges h in
    let a = not-false (in_total x) (passed _ _ _ e).0 in
    ranges_sound (search rules)

pub offer_keeps : (r : Account) (t : Terms) → KeepsTest account_sound r (offer_of r t)
offer_keeps r t h e =
    let s = sound_ranges h in
    let p = passed _ _ _ e in
    let a = moves_in r.purse.offered t.amount p.0 in
    let l = leb-false count_limit r.pending (passed _ _ _ p.1).0 in
    let b = le-leb (r.pending + 1) count_limit (omega arith) in
    ranges_sound (search rules)

pub reoffer_keeps : (r : Account) (old new : Terms) → KeepsTest account_sound r (reoffer_of r old new)
reoffer_keeps r old new h e =
    let s = sound_ranges h in
    let a = moves_in r.purse.offered (new.amount -ℤ old.amount) (passed _ _ _ e).0 in
    ranges_sound (search rules)

pub debit_keeps : (r : Account) (t : Terms) → KeepsTest account_sound r (debit_of r t)
debit_keeps r t h e =
    let s = sound_ranges h in
    let p = passed _ _ _ e in
    let a = moves_in r.purse.allowance (neg_ℤ t.amount) p.0 in
    let b = moves_in r.purse.balance (neg_ℤ t.amount) (passed _ _ _ p.1).0 in
    ranges_sound (search rules)

pub accept_keeps : (r : Account) (t : Terms) → KeepsTest account_sound r (accept_of r t)
accept_keeps r t h e =
    let s = sound_ranges h in
    let a = moves_in r.purse.accepted t.amount (passed _ _ _ e).0 in
    ranges_sound (search rules)

pub lender_repaid_keeps : (s : SeenAccount) (allowed : Bool) (flag : ℕ) → KeepsTest account_sound s.row (lender_repaid_of s allowed flag)
lender_repaid_keeps s allowed flag h e =
    let k = sound_ranges h in
    let p = passed _ _ _ (passed _ _ _ (passed _ _ _ e).1).1 in
    let n = s.row.repaid + flag in
    let a = le-leb n count_limit (ltb-false count_limit n (passed _ _ _ p.1).0) in
    ranges_sound (search rules)

-- only the mark changes, and soundness does not speak of it
pub blacklist_keeps : (s : SeenAccount) (allowed : Bool) (code : ℕ) → KeepsTest account_sound s.row (blacklist_of s allowed code)
unfolding account_sound
blacklist_keeps s allowed code h e = h
