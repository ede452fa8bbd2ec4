-- The promises of the due rule for each kind of installments. Assumes nothing.
use Rattle.std.specs.Prelude.{ℕ, ◌/◌, ◌≤◌, ◌<◌}
use Rattle.std.proofs.Common.{arith}
use Rattle.installments.specs.SumLaws.{Promises, due_promises}
use Rattle.installments.specs.Even.{even}
use Rattle.installments.specs.EvenLaws.{even_length, even_positive}
use Rattle.installments.specs.Flat.{total_of, part_of, flat}
use Rattle.installments.specs.FlatLaws.{flat_length, parts_positive}
use Rattle.installments.specs.Falling.{falling}
use Rattle.installments.specs.FallingLaws.{falling_length, falling_positive}

pub even_promises : (count x elapsed repaid : ℕ) → 0 < x → elapsed ≤ count → Promises (even count x) elapsed repaid
even_promises count x elapsed repaid p h = due_promises (even count x) elapsed repaid (even_positive count x p) (omega (arith, even_length count x))

pub flat_promises : (amount rate count elapsed repaid : ℕ) → 1 ≤ count → 0 < part_of amount rate count → elapsed ≤ count → Promises (flat count (part_of amount rate count) (total_of amount rate)) elapsed repaid
flat_promises amount rate count elapsed repaid some p h =
    let x = part_of amount rate count in
    due_promises (flat count x (total_of amount rate)) elapsed repaid (parts_positive amount rate count some p) (omega (arith, flat_length count x (total_of amount rate) some))

pub falling_promises : (amount rate count elapsed repaid : ℕ) → 1 ≤ amount / count → elapsed ≤ count → Promises (falling amount rate count) elapsed repaid
falling_promises amount rate count elapsed repaid p h = due_promises (falling amount rate count) elapsed repaid (falling_positive amount rate count p) (omega (arith, falling_length amount rate count))
