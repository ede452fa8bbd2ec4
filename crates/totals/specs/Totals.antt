-- The book's totals: what a sound book holds of them, and how create, settlement and repayment move them.
use Rattle.std.specs.Prelude.{ℕ, ◌+◌, Bool, not, ◌&&◌, [], ◌∷◌, leb, ℤ, pos, ◌+ℤ◌}
use Rattle.money.specs.Range.{count_limit, in_total, movable}
use Rattle.refusal.specs.Refusal.{◌gives◌, unauthorized, out_of_range}
use Rattle.refusal.specs.Rule.{Rule}
use Rattle.terms.specs.declared.Terms.{Terms}
use Rattle.totals.specs.declared.Totals.{Totals}

abbrev pub no_totals : Totals
no_totals = record { financed = pos 0; repaid = pos 0; fees = pos 0; offers = 0 }

unfoldable pub totals_sound : Totals → Bool
totals_sound t = ((in_total t.financed && in_total t.repaid) && in_total t.fees) && leb t.offers count_limit

-- create: the book's total_offers grows by 1, else 11
abbrev pub count_of : Totals → Rule Totals
count_of t = record {
  checks = (leb count_limit t.offers gives out_of_range) ∷ [];
  done = record { financed = t.financed; repaid = t.repaid; fees = t.fees; offers = t.offers + 1 };
}

-- settlement: the financed total grows, else 11
abbrev pub finance_of : Totals → Terms → Rule Totals
finance_of t x = record {
  checks = (not (movable t.financed x.amount) gives out_of_range) ∷ [];
  done = record { financed = t.financed +ℤ x.amount; repaid = t.repaid; fees = t.fees; offers = t.offers };
}

-- repayment's fourth update: caller 6; both amounts are added to the repaid and fee totals, else 11
abbrev pub repay_of : Totals → Bool → ℤ → ℤ → Rule Totals
repay_of t allowed x fee = record {
  checks =
      (not allowed gives unauthorized)
      ∷ (not (movable t.repaid x) gives out_of_range)
      ∷ (not (movable t.fees fee) gives out_of_range)
      ∷ [];
  done = record { financed = t.financed; repaid = t.repaid +ℤ x; fees = t.fees +ℤ fee; offers = t.offers };
}
