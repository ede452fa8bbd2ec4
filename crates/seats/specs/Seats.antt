-- Document 01, module 2: the seats that are both presented and configured, against the threshold.
use Rattle.std.specs.Prelude.{ℕ, zero, suc, ◌+◌, ◌/◌, ◌%◌, ◌^◌, Bool, true, false, ◌&&◌, leb, eqb}

-- seat i is bit i
abbrev pub has_seat : ℕ → ℕ → Bool
has_seat seats i = eqb (seats / 2 ^ i % 2) 1

abbrev pub bit : Bool → ℕ
bit true = 1
bit false = 0

-- how many i below k pass a test
unfoldable pub count_below : ℕ → (ℕ → Bool) → ℕ
count_below zero t = 0
count_below (suc k) t = count_below k t + bit (t k)

-- bits past 32 are no seats
unfoldable pub present_of : ℕ → ℕ → ℕ
present_of presented configured = count_below 32 (λ i. has_seat presented i && has_seat configured i)

unfoldable pub count_seats : ℕ → ℕ
count_seats seats = count_below 32 (has_seat seats)

unfoldable pub reaches_of : ℕ → ℕ → ℕ → Bool
reaches_of presented configured threshold = leb threshold (present_of presented configured)

-- seats in 32 bits, and a threshold from 1 to their number
unfoldable pub threshold_ok : ℕ → ℕ → Bool
threshold_ok next threshold = leb next 4294967295 && (leb 1 threshold && leb threshold (count_seats next))
