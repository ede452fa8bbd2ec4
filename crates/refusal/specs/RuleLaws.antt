-- How code that tests in order answers, and what a list of checks that passes says.
use Rattle.std.specs.Prelude.{ℕ, ◌≡◌, refl, Bool, true, false, List, [], ◌∷◌, ◌++◌}
use Rattle.std.proofs.Math.Path.{sym, ap}
use Rattle.std.proofs.Common.{◌∙◌, arith, eq-eqb, ne_eqb}
use Rattle.refusal.specs.Choice.{pick}
use Rattle.refusal.specs.ChoiceLaws.{pick_on, pick_off}
use Rattle.refusal.specs.Refusal.{Refusal, number, Check, ◌gives◌, first}
use Rattle.refusal.specs.RefusalLaws.{fails, passes, refusal_not-0}
use Rattle.refusal.specs.Rule.{Rule, after, answered}

module _ {A S : Type 0} (mk : ℕ → A → S) where
  -- how code that tests in order answers: a check that fails, one that passes, none left
  pub refuses : {t : Bool} (n : Refusal) (l : List Check) (old done : A) → t ≡ true → mk (number n) old ≡ answered mk old (record { checks = (t gives n) ∷ l; done = done })
  unfolding answered after
  refuses {t} n l old done e =
      rw (sym (fails n l e)) (ap (λ z. mk (number n) z) (sym (pick_off done old (refusal_not-0 n))))

  pub goes_on : {t : Bool} {z : S} (n : Refusal) (l : List Check) (old done : A) → t ≡ false → z ≡ answered mk old (record { checks = l; done = done })
      → z ≡ answered mk old (record { checks = (t gives n) ∷ l; done = done })
  unfolding answered after
  goes_on {t} {z} n l old done e h = rw (sym (passes n l e refl)) h

  pub does : (old done : A) {z : A} → z ≡ done → mk 0 z ≡ answered mk old (record { checks = []; done = done })
  unfolding answered after first pick
  does old done {z} h = ap (λ y. mk 0 y) h

  -- how code that asks for the number first answers
  pub refused : {n : ℕ} (old : A) (u : Rule A) → n ≡ first u.checks → (n ≡ 0 → ⊥) → mk n old ≡ answered mk old u
  unfolding answered after
  refused {n} old u e h =
      ap (λ z. mk z old) e ∙ ap (λ z. mk (first u.checks) z) (sym (pick_off u.done old (ne_eqb _ _ (λ q. h (e ∙ q)))))

  pub accepted : {n : ℕ} {z : A} (old : A) (u : Rule A) → n ≡ first u.checks → n ≡ 0 → z ≡ u.done → mk 0 z ≡ answered mk old u
  unfolding answered after
  accepted {n} {z} old u e q h =
      ap (λ y. mk y z) (sym q ∙ e) ∙ ap (λ y. mk (first u.checks) y) (h ∙ sym (pick_on u.done old (eq-eqb _ _ (sym e ∙ q))))

number_not-0 : (n : Refusal) → number n ≡ 0 → ⊥
number_not-0 n e = let z : false ≡ true = sym (refusal_not-0 n) ∙ eq-eqb (number n) 0 e in let y : ◌≡◌ {A = ℕ} 0 1 = cc in omega arith

-- where a list of checks passes, its first check does and so do the others
pub passed : (t : Bool) (n : Refusal) (l : List Check) → first ((t gives n) ∷ l) ≡ 0 → (t ≡ false) × (first l ≡ 0)
unfolding first pick
passed true n l e = absurd (number_not-0 n e)
passed false n l e = (refl, e)

-- the checks of two parts, one after the other
pub first_pass : (a b : List Check) → first a ≡ 0 → first (a ++ b) ≡ first b
unfolding first
first_pass [] b e = refl
first_pass (k ∷ ks) b e = go k.0 refl e (first_pass ks b)
  where
    go : (t : Bool) → k.0 ≡ t → pick k.0 (number k.1) (first ks) ≡ 0 → (first ks ≡ 0 → first (ks ++ b) ≡ first b)
        → pick k.0 (number k.1) (first (ks ++ b)) ≡ first b
    go true q e h = absurd (number_not-0 k.1 (sym (pick_on (number k.1) (first ks) q) ∙ e))
    go false q e h = pick_off (number k.1) (first (ks ++ b)) q ∙ h (sym (pick_off (number k.1) (first ks) q) ∙ e)

pub first_stop : (a b : List Check) → (first a ≡ 0 → ⊥) → first (a ++ b) ≡ first a
unfolding first
first_stop [] b h = absurd (h refl)
first_stop (k ∷ ks) b h = go k.0 refl h (first_stop ks b)
  where
    go : (t : Bool) → k.0 ≡ t → (pick k.0 (number k.1) (first ks) ≡ 0 → ⊥) → ((first ks ≡ 0 → ⊥) → first (ks ++ b) ≡ first ks)
        → pick k.0 (number k.1) (first (ks ++ b)) ≡ pick k.0 (number k.1) (first ks)
    go true q h f = pick_on (number k.1) (first (ks ++ b)) q ∙ sym (pick_on (number k.1) (first ks) q)
    go false q h f =
        pick_off (number k.1) (first (ks ++ b)) q ∙ f (λ z. h (pick_off (number k.1) (first ks) q ∙ z)) ∙ sym (pick_off (number k.1) (first ks) q)

-- two parts pass where each does
pub both_pass : (a b : List Check) → first (a ++ b) ≡ 0 → (first a ≡ 0) × (first b ≡ 0)
unfolding first
both_pass [] b e = (refl, e)
both_pass (k ∷ ks) b e =
    let p = passed k.0 k.1 (ks ++ b) e in
    let q = both_pass ks b p.1 in
    (pick_off (number k.1) (first ks) p.0 ∙ q.0, q.1)

-- where a contract is an equation, any two results that it allows are one
pub one_result : {A : Type 0} {x y z : A} → x ≡ z → y ≡ z → x ≡ y
one_result p q = p ∙ sym q

-- a rule keeps what holds of the thing that it works on, or a test of it, where its checks pass
abbrev pub Keeps : {A : Type 0} → (A → Type 0) → A → Rule A → Type 0
Keeps P old u = P old → first u.checks ≡ 0 → P u.done

abbrev pub KeepsTest : {A : Type 0} → (A → Bool) → A → Rule A → Type 0
KeepsTest q old u = Keeps (λ x. q x ≡ true) old u
