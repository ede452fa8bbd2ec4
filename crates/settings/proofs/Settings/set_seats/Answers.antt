use Rattle.std.proofs.Common.{◌≡◌, ℕ, ◌%◌, true, arith, rules, leb-true, mod-eq_of_lt}
use Rattle.std.proofs.lemmas.Bool.{not-false}
use Rattle.money.specs.Facts.{both}
use Rattle.seats.specs.Seats.{threshold_ok}
use Rattle.settings.proofs.Settings.set_seats.Goals as goal

-- seats that can be configured lie in 32 bits, so the remainder takes nothing away
in_bits : (next threshold : ℕ) → threshold_ok next threshold ≡ true → next % 4294967296 ≡ next
unfolding threshold_ok
in_bits next threshold h = let l = leb-true next 4294967295 (both _ _ h).0 in mod-eq_of_lt (omega arith)

pub returns : goal.returns
returns c =
    let e : c.args.next % 4294967296 ≡ c.args.next = in_bits c.args.next c.args.threshold (search rules) in
    rw e (search rules)
