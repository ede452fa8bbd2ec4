-- What follows from arguments in range. Assumes nothing.
use Rattle.std.specs.Prelude.{ℕ, ◌-◌, ◌*◌, ◌≤◌, ◌<◌, ◌≡◌, refl, Bool, true, false, ◌&&◌, leb, ltb}
use Rattle.std.proofs.Common.{mul-le-mul, arith, sym, ap, leb-true, ltb-true, le-leb, lt-ltb}
use Rattle.std.proofs.Math.Bool.{and-eq-true_iff}
use Rattle.refusal.specs.ChoiceLaws.{on, off}
use Rattle.installments.specs.Flat.{total_of, part_of}
use Rattle.installments.specs.FlatLaws.{parts_room, total_le}
use Rattle.installments.specs.Arguments.{due_ok, even_ok, flat_ok, terms_ok, falling_ok, due_as, due_if}

pub record DueIn (count elapsed repaid : ℕ) : Type 0 where
  pub count_low : 1 ≤ count
  pub count_high : count ≤ 1200
  pub elapsed_high : elapsed ≤ count
  pub repaid_high : repaid ≤ 4000000000000000

pub due_in_lem : (count elapsed repaid : ℕ) → due_ok count elapsed repaid ≡ true → DueIn count elapsed repaid
unfolding due_ok
due_in_lem count elapsed repaid h =
    let a = (and-eq-true_iff ((leb 1 count && leb count 1200) && leb elapsed count) (leb repaid 4000000000000000)).0 h in
    let b = (and-eq-true_iff (leb 1 count && leb count 1200) (leb elapsed count)).0 a.0 in
    let d = (and-eq-true_iff (leb 1 count) (leb count 1200)).0 b.0 in
    record {
      count_low = leb-true 1 count d.0;
      count_high = leb-true count 1200 d.1;
      elapsed_high = leb-true elapsed count b.1;
      repaid_high = leb-true repaid 4000000000000000 a.1;
    }

pub record EvenIn (count x elapsed repaid : ℕ) : Type 0 where
  pub due : DueIn count elapsed repaid
  pub low : 1 ≤ x
  pub high : x ≤ 2000000000000

pub even_in : (count x elapsed repaid : ℕ) → even_ok count x elapsed repaid ≡ true → EvenIn count x elapsed repaid
unfolding even_ok
even_in count x elapsed repaid h =
    let a = (and-eq-true_iff (due_ok count elapsed repaid && leb 1 x) (leb x 2000000000000)).0 h in
    let b = (and-eq-true_iff (due_ok count elapsed repaid) (leb 1 x)).0 a.0 in
    record { due = due_in_lem count elapsed repaid b.0; low = leb-true 1 x b.1; high = leb-true x 2000000000000 a.1 }

pub record FlatIn (count x total elapsed repaid : ℕ) : Type 0 where
  pub even : EvenIn count x elapsed repaid
  pub more : (count - 1) * x < total
  pub most : total ≤ 2000000000000

pub flat_in : (count x total elapsed repaid : ℕ) → flat_ok count x total elapsed repaid ≡ true → FlatIn count x total elapsed repaid
unfolding flat_ok
flat_in count x total elapsed repaid h =
    let a = (and-eq-true_iff (even_ok count x elapsed repaid) (ltb ((count - 1) * x) total && leb total 2000000000000)).0 h in
    let b = (and-eq-true_iff (ltb ((count - 1) * x) total) (leb total 2000000000000)).0 a.1 in
    record { even = even_in count x elapsed repaid a.0; more = ltb-true ((count - 1) * x) total b.0; most = leb-true total 2000000000000 b.1 }

pub record TermsIn (amount rate : ℕ) : Type 0 where
  pub amount_low : 1 ≤ amount
  pub amount_high : amount ≤ 1000000000000
  pub rate_low : 1 ≤ rate
  pub rate_high : rate ≤ 10000

pub terms_in_lem : (amount rate : ℕ) → terms_ok amount rate ≡ true → TermsIn amount rate
unfolding terms_ok
terms_in_lem amount rate h =
    let a = (and-eq-true_iff ((leb 1 amount && leb amount 1000000000000) && leb 1 rate) (leb rate 10000)).0 h in
    let b = (and-eq-true_iff (leb 1 amount && leb amount 1000000000000) (leb 1 rate)).0 a.0 in
    let d = (and-eq-true_iff (leb 1 amount) (leb amount 1000000000000)).0 b.0 in
    record {
      amount_low = leb-true 1 amount d.0;
      amount_high = leb-true amount 1000000000000 d.1;
      rate_low = leb-true 1 rate b.1;
      rate_high = leb-true rate 10000 a.1;
    }

pub record FallingIn (amount rate count elapsed repaid : ℕ) : Type 0 where
  pub due : DueIn count elapsed repaid
  pub terms : TermsIn amount rate

pub falling_in : (amount rate count elapsed repaid : ℕ) → falling_ok amount rate count elapsed repaid ≡ true → FallingIn amount rate count elapsed repaid
unfolding falling_ok
falling_in amount rate count elapsed repaid h =
    let a = (and-eq-true_iff (due_ok count elapsed repaid) (terms_ok amount rate)).0 h in
    record { due = due_in_lem count elapsed repaid a.0; terms = terms_in_lem amount rate a.1 }

-- as many installments as there may be stay below 64 bits
pub times_le : (n x : ℕ) → n ≤ 1200 → x ≤ 2000000000000 → n * x ≤ 2400000000000000
times_le n x h k = mul-le-mul h k

-- installments that are made of terms in range, and are not 0, are in range
pub flat_made : (amount rate count elapsed repaid : ℕ) → TermsIn amount rate → due_ok count elapsed repaid ≡ true → 0 < part_of amount rate count → flat_ok count (part_of amount rate count) (total_of amount rate) elapsed repaid ≡ true
unfolding flat_ok even_ok
flat_made amount rate count elapsed repaid t d p =
    let x = part_of amount rate count in
    let room = parts_room amount rate count (due_in_lem count elapsed repaid d).count_low in
    let most = total_le amount rate t.amount_high t.rate_high in
    rw (d, le-leb 1 x p, le-leb x 2000000000000 (omega arith), lt-ltb ((count - 1) * x) (total_of amount rate) (omega arith), le-leb (total_of amount rate) 2000000000000 most)

pub falling_made : (amount rate count elapsed repaid : ℕ) → terms_ok amount rate ≡ true → due_ok count elapsed repaid ≡ true → falling_ok amount rate count elapsed repaid ≡ true
unfolding falling_ok
falling_made amount rate count elapsed repaid t d = rw (d, t)

-- the answer where they are, and where one is not
pub answers : {ok : Bool} {d e : ℕ × ℕ} → ok ≡ true → d ≡ e → due_as e ≡ due_if ok d
unfolding due_if
answers t p = on _ t (ap due_as (sym p))

pub answers_none : {ok : Bool} (d : ℕ × ℕ) → ok ≡ false → due_as (0, 0) ≡ due_if ok d
unfolding due_if
answers_none d t = off _ t refl
