-- A walk that adds up a figure of each row of a table. Over any row.
use Rattle.std.specs.Prelude.{◌≡◌, refl, [], ◌∷◌, ◌++◌, ℕ, ◌+◌, ◌*◌, ◌≤◌, ◌<◌, length, take, get_or}
use Rattle.std.proofs.Math.Path.{ap}
use Rattle.std.proofs.Common.{◌∙◌, add-one, mul-one, arith, take_all}
use Rattle.std.proofs.Math.Nat.{mul-add}
use Rattle.std.proofs.Math.Seq.{take-suc}
use Rattle.table.specs.Tables.{Table, total}

total-append : {A : Type 0} (f : A → ℕ) (s t : Table A) → total f (s ++ t) ≡ total f s + total f t
unfolding total
total-append f [] t = omega arith
total-append f (e ∷ s) t = omega (arith, total-append f s t)

-- i rows are added up to s, each at most b
pub record Summed {A : Type 0} (f : A → ℕ) (b : ℕ) (t : Table A) (i s : ℕ) : Type 0 where
  pub within : i ≤ length t
  pub summed : s ≡ total f (take i t)
  pub small : s ≤ b * i

pub sum_start : {A : Type 0} (f : A → ℕ) (b : ℕ) (t : Table A) → Summed f b t 0 0
unfolding total
sum_start f b t = record { within = omega arith; summed = refl; small = omega arith }

module _ {A : Type 0} {f : A → ℕ} {b : ℕ} {t : Table A} {i s : ℕ} (w : Summed f b t i s) where
  pub sum_done : length t ≤ i → s ≡ total f t
  sum_done h = rw (take_all i t h) at w.summed

  pub sum_turn : (d : ℕ × A) (v : ℕ) → i < length t → v ≡ f (get_or t i d).1 → v ≤ b → Summed f b t (i + 1) (s + v)
  unfolding total
  sum_turn d v h e l =
      let m : b * (i + 1) ≡ b * i + b = mul-add b i 1 ∙ ap (λ (k : ℕ). b * i + k) (mul-one b) in
      record {
        within = omega arith;
        summed = rw (add-one, take-suc t i d h, total-append f (take i t) (get_or t i d ∷ [])) (omega (arith, w.summed));
        small = omega (arith, w.small);
      }
