-- Room in a buffer.
use Rattle.std.specs.Prelude.{ℕ, ◌+◌, ◌≤◌, ◌<◌, ◌≡◌, Bool, true, false, leb}

-- a test of room for n places from p on, and what follows from it
pub record Room (p n len : ℕ) (r : Bool) : Type 0 where
  pub is : r ≡ leb (p + n) len
  pub fits : r ≡ true → p + n ≤ len
  pub lacks : r ≡ false → len < p + n
