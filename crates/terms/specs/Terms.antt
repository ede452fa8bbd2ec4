-- Document 01, module 1: when terms are valid, and when two are the same.
use Rattle.std.specs.Prelude.{ℕ, Bool, ◌&&◌, leb, eqb, ℤ}
use Rattle.money.specs.Range.{in_amount, same_amount}
use Rattle.terms.specs.declared.Terms.{Terms}

-- an amount and a rate in range
abbrev pub price_ok : ℤ → ℕ → Bool
price_ok amount rate = (in_amount amount && leb 1 rate) && leb rate 10000

-- amount, rate and duration in range
unfoldable pub terms_ok : Terms → Bool
terms_ok t = (price_ok t.amount t.rate && leb 86400 t.duration) && leb t.duration 31536000

unfoldable pub same_terms : Terms → Terms → Bool
same_terms a b = (same_amount a.amount b.amount && eqb a.rate b.rate) && eqb a.duration b.duration

-- a number of installments
abbrev pub count_ok : ℕ → Bool
count_ok count = leb 1 count && leb count 1200
