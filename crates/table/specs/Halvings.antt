-- How often a number can be halved: fewer times what is at most its half; and it is the least k with n < 2^k.
use Rattle.std.specs.Prelude.{ℕ, zero, suc, ◌*◌, ◌/◌, ◌^◌, ◌≤◌, ◌<◌, ◌≡◌, refl, Bool, true, false, cond, eqb}
use Rattle.std.proofs.Common.{arith, ap, eqb-true, ne_eqb}
use Rattle.std.proofs.lemmas.Bool.{eqb-false}
use Rattle.table.specs.Find.{halvings_by, halvings}

positive : (n : ℕ) → eqb n 0 ≡ false → 0 < n
positive zero e = absurd (eqb-false 0 0 e refl)
positive (suc n) e = omega arith

by_mono : (b c m n : ℕ) → m ≤ n → n ≤ c → halvings_by b m ≤ halvings_by c n
unfolding halvings_by
by_mono zero c m n h l = omega arith
by_mono (suc b) zero m n h l = go (eqb m 0) refl
  where
    go : (t : Bool) → eqb m 0 ≡ t → cond t 0 (suc (halvings_by b (m / 2))) ≤ 0
    go true e = omega arith
    go false e = absurd (omega (arith, positive m e))
by_mono (suc b) (suc c) m n h l = go (eqb m 0) (eqb n 0) refl refl (by_mono b c (m / 2) (n / 2))
  where
    go : (s t : Bool) → eqb m 0 ≡ s → eqb n 0 ≡ t → (m / 2 ≤ n / 2 → n / 2 ≤ c → halvings_by b (m / 2) ≤ halvings_by c (n / 2))
        → cond s 0 (suc (halvings_by b (m / 2))) ≤ cond t 0 (suc (halvings_by c (n / 2)))
    go true t e f r = omega arith
    go false true e f r = absurd (omega (arith, positive m e, eqb-true n 0 f))
    go false false e f r = let p = positive n f in let q = r (omega arith) (omega arith) in omega arith

-- what is left after a look is at most the half, and can be halved fewer times
pub fewer : (m n : ℕ) → 0 < n → m ≤ n / 2 → halvings m < halvings n
unfolding halvings_by
fewer m zero h l = absurd (omega arith)
fewer m (suc n) h l =
    let e : halvings (suc n) ≡ suc (halvings_by n (suc n / 2)) = ap (λ t. cond t 0 (suc (halvings_by n (suc n / 2)))) (ne_eqb (suc n) 0 (λ z. omega arith)) in
    let q = by_mono m n m (suc n / 2) l (omega arith) in
    omega arith

-- n < 2^k says that k halvings are enough, and so many as there are are: the least such k
pub least_halvings : (k b n : ℕ) → n < 2 ^ k → halvings_by b n ≤ k
unfolding halvings_by
least_halvings k zero n h = omega arith
least_halvings zero (suc b) n h = go (eqb n 0) refl
  where
    go : (t : Bool) → eqb n 0 ≡ t → cond t 0 (suc (halvings_by b (n / 2))) ≤ 0
    go true e = omega arith
    go false e = absurd (omega (arith, positive n e))
least_halvings (suc k) (suc b) n h = go (eqb n 0) (least_halvings k b (n / 2) (omega arith))
  where
    go : (t : Bool) → halvings_by b (n / 2) ≤ k → cond t 0 (suc (halvings_by b (n / 2))) ≤ suc k
    go true r = omega arith
    go false r = omega arith

pub halvings_enough : (b n : ℕ) → n ≤ b → n < 2 ^ halvings_by b n
unfolding halvings_by
halvings_enough zero n h = omega arith
halvings_enough (suc b) n h = go (eqb n 0) refl (halvings_enough b (n / 2))
  where
    go : (t : Bool) → eqb n 0 ≡ t → (n / 2 ≤ b → n / 2 < 2 ^ halvings_by b (n / 2)) → n < 2 ^ cond t 0 (suc (halvings_by b (n / 2)))
    go true e r = omega (arith, eqb-true n 0 e)
    go false e r =
        let p = positive n e in
        let q = r (omega arith) in
        let z : n < 2 ^ suc (halvings_by b (n / 2)) = omega arith in
        z

-- seven looks in a table of 64 rows
pub halvings_of-64 : (n : ℕ) → n ≤ 64 → halvings n ≤ 7
halvings_of-64 n h = least_halvings 7 n n (omega arith)
