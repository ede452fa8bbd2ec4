-- Laws of sums of amounts that the history sums need. Assumes nothing.
use Rattle.std.specs.Prelude.{ℕ, ◌≡◌, refl, Bool, true, false, List, [], ◌∷◌, eqb, ℤ, pos, ◌+ℤ◌, ◌-ℤ◌, neg_ℤ}
use Rattle.std.proofs.Common.{sym, ap, ◌∙◌}
use Rattle.std.proofs.Math.IntN.{+ℤ_assoc, +ℤ_comm, neg_ℤ-+ℤ, -ℤ-+ℤ_cancel}
use Rattle.refusal.specs.Choice.{pick}
use Rattle.history.specs.History.{sum, share}
use Rattle.history.specs.Figures.{swap}

-- three more
pub after_three : (a b c d : ℤ) → a +ℤ b +ℤ c +ℤ d ≡ a +ℤ (b +ℤ c +ℤ d)
after_three a b c d = ap (λ z. z +ℤ d) (+ℤ_assoc a b c) ∙ +ℤ_assoc a (b +ℤ c) d

-- the balance's four sums, where one of them, or the last two, grow
pub first_grows : (d p q r s : ℤ) → d +ℤ s +ℤ p +ℤ q +ℤ r ≡ d +ℤ p +ℤ q +ℤ r +ℤ s
first_grows d p q r s = ap (λ z. z +ℤ q +ℤ r) (swap d s p) ∙ ap (λ z. z +ℤ r) (swap (d +ℤ p) s q) ∙ swap (d +ℤ p +ℤ q) s r

pub second_grows : (d p q r s : ℤ) → d -ℤ (p +ℤ s) +ℤ q +ℤ r ≡ d -ℤ p +ℤ q +ℤ r +ℤ neg_ℤ s
second_grows d p q r s =
    ap (λ z. d +ℤ z +ℤ q +ℤ r) (neg_ℤ-+ℤ p s)
    ∙ ap (λ z. z +ℤ q +ℤ r) (sym (+ℤ_assoc d (neg_ℤ p) (neg_ℤ s)) ∙ swap d (neg_ℤ p) (neg_ℤ s))
    ∙ first_grows d (neg_ℤ p) q r (neg_ℤ s)

pub last_two_grow : (d p q r s t : ℤ) → d +ℤ p -ℤ (q +ℤ s) +ℤ (r +ℤ t) ≡ d +ℤ p -ℤ q +ℤ r +ℤ neg_ℤ s +ℤ t
last_two_grow d p q r s t =
    sym (+ℤ_assoc (d +ℤ p -ℤ (q +ℤ s)) r t)
    ∙ ap (λ z. z +ℤ r +ℤ t) (ap (λ z. d +ℤ p +ℤ z) (neg_ℤ-+ℤ q s) ∙ sym (+ℤ_assoc (d +ℤ p) (neg_ℤ q) (neg_ℤ s)))
    ∙ ap (λ z. z +ℤ t) (swap (d +ℤ p -ℤ q) (neg_ℤ s) r)

pub share_neg : (a b : ℕ) (x : ℤ) → share a b (neg_ℤ x) ≡ neg_ℤ (share a b x)
unfolding share pick
share_neg a b x = go (eqb a b)
  where
    go : (g : Bool) → pick g (neg_ℤ x) (pos 0) ≡ neg_ℤ (pick g x (pos 0))
    go true = refl
    go false = refl

-- the new amount is the old one and what it moved by
pub share_moves : (a b : ℕ) (old new : ℤ) → share a b new ≡ share a b old +ℤ share a b (new -ℤ old)
unfolding share pick
share_moves a b old new = go (eqb a b)
  where
    go : (g : Bool) → pick g new (pos 0) ≡ pick g old (pos 0) +ℤ pick g (new -ℤ old) (pos 0)
    go true = sym (+ℤ_comm old (new -ℤ old) ∙ -ℤ-+ℤ_cancel new old)
    go false = refl

pub sum_same : {A : Type 0} (f g : A → ℤ) → ((x : A) → g x ≡ f x) → (l : List A) → sum g l ≡ sum f l
unfolding sum
sum_same f g k [] = refl
sum_same f g k (x ∷ l) = ap (λ z. z +ℤ g x) (sum_same f g k l) ∙ ap (λ z. sum f l +ℤ z) (k x)
