-- A rescue takes no more of its buffers than there is, and their lengths stay. Assumes nothing.
use Rattle.std.proofs.Math.Path.{◌≡◌, refl}
use Rattle.std.specs.Prelude.{Bool, not, List, [], ◌∷◌, ℕ, ◌≤◌}
use Rattle.std.proofs.Math.Bool.{true, false}
use native.Mathlib.Omega.{arith}
use Rattle.std.proofs.Math.ListN.{length}
use Rattle.std.proofs.Math.Dec.{eqb, leb}
use borrow.Author.Tests.{leb-true, eqb-true}
use Rattle.refusal.specs.Choice.{pick}
use Rattle.refusal.specs.ChoiceLaws.{either}
use Rattle.refusal.specs.Refusal.{journal_malformed, buffer_short, ◌gives◌, first}
use Rattle.refusal.specs.Placed.{placed}
use Rattle.refusal.specs.PlacedLaws.{length-placed}
use Rattle.rescue.specs.Rescue.{opens, clean_of, report_of, number_for, Answer, answer_for, out_for, report_for}
use Rattle.rescue.proofs.Answers.{opened, clean_short}
use Rattle.rescue.proofs.Laws.{header_good}

module _ (s out report : List ℕ) where
  passed : eqb (number_for s out report) 0 ≡ true → (length (clean_of s) ≤ length out) × (length (report_of s) ≤ length report)
  unfolding number_for first pick
  passed h = go (opens s) (leb (length s) (length out)) (leb (length (report_of s)) (length report)) refl refl refl h
    where
      go : (a b c : Bool) → opens s ≡ a → leb (length s) (length out) ≡ b → leb (length (report_of s)) (length report) ≡ c
          → eqb (first ((not a gives journal_malformed) ∷ (not b gives buffer_short) ∷ (not c gives buffer_short) ∷ [])) 0 ≡ true
          → (length (clean_of s) ≤ length out) × (length (report_of s) ≤ length report)
      go true true true p q r z = let l = leb-true (length s) (length out) q in (omega (arith, clean_short s out report (opened s (header_good s p)) l), leb-true _ _ r)
      go true true false p q r z = let f : ◌≡◌ {A = ℕ} 14 0 = eqb-true 14 0 z in absurd (omega arith)
      go true false c p q r z = let f : ◌≡◌ {A = ℕ} 14 0 = eqb-true 14 0 z in absurd (omega arith)
      go false b c p q r z = let f : ◌≡◌ {A = ℕ} 13 0 = eqb-true 13 0 z in absurd (omega arith)

  out_long : length (out_for s out report) ≡ length out
  unfolding out_for
  out_long = either (λ l. length l ≡ length out) (eqb (number_for s out report) 0) (placed 0 (clean_of s) out) out (λ z. length-placed 0 (clean_of s) out (omega (arith, passed z))) (λ z. refl)

  report_long : length (report_for s out report) ≡ length report
  unfolding report_for
  report_long = either (λ l. length l ≡ length report) (eqb (number_for s out report) 0) (placed 0 (report_of s) report) report (λ z. length-placed 0 (report_of s) report (omega (arith, passed z))) (λ z. refl)

  within : ((answer_for s out report).size ≤ length out) × ((answer_for s out report).dropped ≤ length report)
  unfolding answer_for
  within = either (λ (a : Answer). (a.size ≤ length out) × (a.dropped ≤ length report)) (eqb (number_for s out report) 0) _ _ passed (λ z. (omega arith, omega arith))

  pub takes : {a : Answer} {wrote noted : List ℕ} → a ≡ answer_for s out report → (wrote ≡ out_for s out report) × (noted ≡ report_for s out report) → (a.size ≤ length wrote) × (a.dropped ≤ length noted)
  takes e h = rw (e, h.0, h.1, out_long, report_long) within
