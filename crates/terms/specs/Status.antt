-- Document 01, "Numbers": where an offer stands.
use Rattle.std.specs.Prelude.{ℕ, Bool, leb}

abbrev pub status_pending : ℕ
status_pending = 0

abbrev pub status_accepted : ℕ
status_accepted = 1

abbrev pub status_rejected : ℕ
status_rejected = 2

abbrev pub status_financed : ℕ
status_financed = 3

abbrev pub status_repaid : ℕ
status_repaid = 4

abbrev pub status_defaulted : ℕ
status_defaulted = 5

abbrev pub status_listed : ℕ → Bool
status_listed s = leb s status_defaulted
