-- A walk is what stands at a place and then the rest: the bound on the commands is not seen. Assumes nothing.
use Rattle.std.specs.Prelude.{◌≡◌, false, List}
use Rattle.std.proofs.Math.Path.{refl, sym, ap}
use Prim.Native.Nat.{ℕ, zero, suc, ◌+◌, ◌≤◌, ◌<◌}
use Rattle.std.proofs.Common.{arith}
use Rattle.text.specs.Walk.{Item, item, fault, end, Walk, halted, more, follow, walk_by}

-- a command leads on, within the bytes; a fault is within them; the end is past them
unfoldable pub Onward : ℕ → ℕ → Item → Type 0
Onward len at (item x next) = (at < next) × (next ≤ len)
Onward len at fault = at < len
Onward len at end = len ≤ at

module _ (len : ℕ) (f : ℕ → Item) (g : (at : ℕ) → Onward len at (f at)) where
  same : (at : ℕ) (v w : ℕ → Walk) → ((next : ℕ) → at < next → v next ≡ w next) → (d : Item) → Onward len at d → follow v at d ≡ follow w at d
  unfolding Onward
  same at v w h (item x next) k = ap (more x) (h next k.0)
  same at v w h fault k = refl
  same at v w h end k = refl

  past : (at : ℕ) (v : ℕ → Walk) → len ≤ at → (d : Item) → Onward len at d → halted false at ≡ follow v at d
  unfolding Onward
  past at v h (item x next) k = absurd (omega (arith, k.0, k.1))
  past at v h fault k = absurd (omega arith)
  past at v h end k = refl

  enough : (i j at : ℕ) → len ≤ i + at → len ≤ j + at → walk_by i f at ≡ walk_by j f at
  unfolding walk_by
  enough zero zero at h k = refl
  enough zero (suc j) at h k = past at (walk_by j f) (omega arith) (f at) (g at)
  enough (suc i) zero at h k = sym (past at (walk_by i f) (omega arith) (f at) (g at))
  enough (suc i) (suc j) at h k = same at (walk_by i f) (walk_by j f) (λ next l. enough i j next (omega arith) (omega arith)) (f at) (g at)

  pub from_here : (at : ℕ) → walk_by len f at ≡ follow (walk_by len f) at (f at)
  unfolding walk_by
  from_here at = enough len (suc len) at (omega arith) (omega arith)

  pub leads : {at : ℕ} {x : ℕ × List ℕ} {after : ℕ} → f at ≡ item x after → (at < after) × (after ≤ len)
  unfolding Onward
  leads {at} d = rw d at (g at)
