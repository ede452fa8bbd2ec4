-- What the crates above need: no totals are sound, and every rule leaves sound ones sound.
use Rattle.std.specs.Prelude.{◌+◌, ◌≡◌, refl, Bool, true, leb, ℤ}
use Rattle.std.proofs.Common.{arith, rules, leb-false, le-leb}
use Rattle.money.specs.Range.{count_limit, in_total}
use Rattle.money.specs.Moves.{moves_in}
use Rattle.money.specs.Facts.{both}
use Rattle.refusal.specs.RuleLaws.{passed, KeepsTest}
use Rattle.terms.specs.declared.Terms.{Terms}
use Rattle.totals.specs.declared.Totals.{Totals}
use Rattle.totals.specs.Totals.{no_totals, totals_sound, count_of, finance_of, repay_of}

pub no_totals_sound : totals_sound no_totals ≡ true
unfolding totals_sound
no_totals_sound = refl

-- what soundness says of the totals
pub record TotalsRanges (t : Totals) : Type 0 where
  pub financed_in : in_total t.financed ≡ true
  pub repaid_in : in_total t.repaid ≡ true
  pub fees_in : in_total t.fees ≡ true
  pub offers_in_lem : leb t.offers count_limit ≡ true

pub totals_ranges : {t : Totals} → totals_sound t ≡ true → TotalsRanges t
unfolding totals_sound
totals_ranges {t} e =
    let c = both _ _ e in
    let b = both _ _ c.0 in
    let a = both _ _ b.0 in
    record { financed_in = a.0; repaid_in = a.1; fees_in = b.1; offers_in_lem = c.1 }

pub ranges_totals : {t : Totals} → TotalsRanges t → totals_sound t ≡ true
unfolding totals_sound
ranges_totals {t} h = rw (h.financed_in, h.repaid_in, h.fees_in, h.offers_in_lem)

pub count_keeps : (t : Totals) → KeepsTest totals_sound t (count_of t)
count_keeps t h e =
    let k = totals_ranges h in
    let l = leb-false count_limit t.offers (passed _ _ _ e).0 in
    let a = le-leb (t.offers + 1) count_limit (omega arith) in
    ranges_totals (search rules)

pub finance_keeps : (t : Totals) (x : Terms) → KeepsTest totals_sound t (finance_of t x)
finance_keeps t x h e =
    let k = totals_ranges h in
    let a = moves_in t.financed x.amount (passed _ _ _ e).0 in
    ranges_totals (search rules)

pub repay_keeps : (t : Totals) (allowed : Bool) (x fee : ℤ) → KeepsTest totals_sound t (repay_of t allowed x fee)
repay_keeps t allowed x fee h e =
    let k = totals_ranges h in
    let p = passed _ _ _ (passed _ _ _ e).1 in
    let a = moves_in t.repaid x p.0 in
    let b = moves_in t.fees fee (passed _ _ _ p.1).0 in
    ranges_totals (search rules)
