-- What the walk over a journal goes by: where its header and its records lead. Assumes nothing.
use Rattle.std.specs.Prelude.{◌≡◌, refl, Bool, true, false, ◌&&◌, List, ℕ, ◌≤◌, ◌<◌, length}
use Rattle.std.proofs.Common.{ap, arith, leb-true}
use Rattle.refusal.specs.Choice.{pick}
use Rattle.edition.specs.Edition.{listed}
use Rattle.wire.specs.Field.{begins}
use Rattle.wire.specs.FieldLaws.{and_left, and_right}
use Rattle.command.specs.declared.Command.{Command}
use Rattle.journal.specs.Answers.{Opening, good_header, bad_header, found, refused}
use Rattle.journal.specs.Format.{edition_in, opening_of, read_at}
use Rattle.journal.proofs.Ahead.{Goes, goes}

module _ (e : ℕ) (s : List ℕ) (at : ℕ) where
  -- a record leads on, within the journal; a fault is there
  pub ahead : {c : Command} {next : ℕ} → read_at e s at ≡ found c next → (at < next) × (next ≤ length s)
  unfolding Goes
  ahead r = rw r at (goes e s at)

  pub inside : {n p : ℕ} → read_at e s at ≡ refused n p → (p ≡ at) × (at < length s)
  unfolding Goes
  inside r = let g = rw r at (goes e s at) in (g.1.0, g.1.1)

-- a journal that opens is of an edition that there is, and its first record stands within it
pub record Opens (s : List ℕ) (e at : ℕ) : Type 0 where
  pub known : listed e ≡ true
  pub within : at ≤ length s

pub opened : (s : List ℕ) {e at : ℕ} → opening_of s ≡ good_header e at → Opens s e at
unfolding opening_of begins pick
opened s {e} {at} o = go (begins 0x10 2 s && listed (edition_in s)) refl o
  where
    go : (t : Bool) → begins 0x10 2 s && listed (edition_in s) ≡ t → pick t (good_header (edition_in s) 5) (bad_header 0) ≡ good_header e at → Opens s e at
    go true h q =
        let n : edition_in s ≡ e = ap (λ (x : Opening). x.edition) q in
        let z : 5 ≡ at = ap (λ (x : Opening). x.first) q in
        record { known = rw n at (and_right (begins 0x10 2 s) (listed (edition_in s)) h); within = omega (arith, leb-true 5 (length s) (and_left _ _ (and_left _ _ h))) }
    go false h q = let z = ap (λ (x : Opening). x.answer) q in absurd (omega arith)
