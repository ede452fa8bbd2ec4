-- What the pass over the pieces from a place on leaves: its answer, the output and the report.
use Rattle.std.specs.Prelude.{◌≡◌, List, ℕ, ◌+◌, ◌-◌, length}
use Rattle.refusal.specs.Placed.{placed}
use Rattle.rescue.specs.Rescue.{pieces_from, bytes_in, kept_in, dropped_in, Answer, answer}

pub record Swept (e : ℕ) (s : List ℕ) (first : ℕ) (out report : List ℕ) (a : Answer) (wrote noted : List ℕ) : Type 0 where
  pub says : a ≡ answer 0 (first + length (kept_in (pieces_from e s first))) (length (dropped_in (pieces_from e s first))) (length s - (first + length (bytes_in (pieces_from e s first))))
  pub clean : wrote ≡ placed first (kept_in (pieces_from e s first)) out
  pub offsets : noted ≡ placed 0 (dropped_in (pieces_from e s first)) report
