-- What follows from arguments in range: the parts of the tests, and that an installment stays in its range. Assumes nothing.
use Rattle.std.specs.Prelude.{ℕ, ◌+◌, ◌*◌, ◌/◌, ◌≤◌, ◌<◌, ◌≡◌, refl, List, Bool, true, false, ◌&&◌, ◌||◌, cond, ℤ, pos, leb, eqb, get_or}
use Rattle.std.proofs.Math.Nat.{min-le_right, div-le_of_le-mul}
use Rattle.std.proofs.Common.{le_trans, div-le_self, mul-le-mul, mul-le-mul_left, mul_comm, le_of_eq, arith, sym, ◌∙◌}
use Rattle.std.proofs.Math.Decide.{dec_le}
use Rattle.std.proofs.Math.Path.{ap}
use Rattle.std.proofs.Math.Dec.{leb-zero}
use borrow.Author.Tests.{leb-true, leb-false, le-leb, eqb-true, eqb-false, eq-eqb}
use Rattle.refusal.specs.Choice.{pick}
use Rattle.refusal.specs.ChoiceLaws.{pick_on, pick_off, either}
use Rattle.money.specs.Range.{in_amount, in_total, in_installment, is_zero, magnitude_of}
use Rattle.money.specs.Facts.{both, never, between, magnitude_is, same_is, is_same, zero_is}
use Rattle.installments.specs.Sums.{number_due}
use Rattle.installments.specs.Even.{by_quotient}
use Rattle.installments.specs.EvenLaws.{even_number}
use Rattle.installments.specs.Flat.{part_of, total_of}
use Rattle.installments.specs.FlatLaws.{parts_first}
use Rattle.installments.specs.Falling.{falling}
use Rattle.installments.specs.FallingLaws.{falling_member_lem, member_le, first_share}
use Rattle.installments.specs.SumLaws.{Promises}
use Rattle.installments.specs.Promised.{even_promises, flat_promises, falling_promises}
use Rattle.installments.specs.Arguments.{due_ok, even_ok, flat_ok, falling_ok}
use Rattle.installments.specs.Arguments as Arguments
use Rattle.installments.specs.ArgumentLaws.{flat_made, falling_made, falling_in}
use Rattle.terms.specs.declared.Terms.{Terms}
use Rattle.terms.specs.declared.Schedule.{Schedule}
use Rattle.terms.specs.Terms.{terms_ok, count_ok}
use Rattle.terms.specs.Kind.{flat_kind, falling_kind, kind_listed, first_of}
use Rattle.terms.specs.Installment.{installment_amount, installment_of, none_to_pay}
use Rattle.terms.specs.Schedule.{period_listed, seconds_of, keeps_ok, keeps_none, schedule_in, schedule_ok, made_of, kept_installments, installments_of}
use Rattle.terms.specs.Due.{elapsed_of, due_arguments}

pub record TermsIn (t : Terms) : Type 0 where
  pub amount : in_amount t.amount ≡ true
  pub rate_low : 1 ≤ t.rate
  pub rate_high : t.rate ≤ 10000
  pub duration_low : 86400 ≤ t.duration
  pub duration_high : t.duration ≤ 31536000

pub terms_in_lem : (t : Terms) → terms_ok t ≡ true → TermsIn t
unfolding terms_ok
terms_in_lem t h =
    let a = both (((in_amount t.amount && leb 1 t.rate) && leb t.rate 10000) && leb 86400 t.duration) (leb t.duration 31536000) h in
    let b = both ((in_amount t.amount && leb 1 t.rate) && leb t.rate 10000) (leb 86400 t.duration) a.0 in
    let d = both (in_amount t.amount && leb 1 t.rate) (leb t.rate 10000) b.0 in
    let e = both (in_amount t.amount) (leb 1 t.rate) d.0 in
    record {
      amount = e.0;
      rate_low = leb-true 1 t.rate e.1;
      rate_high = leb-true t.rate 10000 d.1;
      duration_low = leb-true 86400 t.duration b.1;
      duration_high = leb-true t.duration 31536000 a.1;
    }

-- an installment is no more than the whole: amount and yield are 10^12 at most each
pub part_le : (amount rate count : ℕ) → amount ≤ 1000000000000 → amount / count ≤ 1000000000000
part_le amount rate count h = le_trans (div-le_self amount count) h

pub product_le : (amount rate count : ℕ) → amount ≤ 1000000000000 → rate ≤ 10000 → amount / count * rate ≤ 10000000000000000
product_le amount rate count h k = mul-le-mul (part_le amount rate count h) k

yield_le : (p rate : ℕ) → rate ≤ 10000 → p * rate / 10000 ≤ p
yield_le p rate h = div-le_of_le-mul 10000 (le_trans (mul-le-mul_left p h) (le_of_eq (mul_comm p 10000)))

pub whole_le : (amount rate count : ℕ) → amount ≤ 1000000000000 → rate ≤ 10000 → part_of amount rate count ≤ 2000000000000
unfolding part_of
whole_le amount rate count h k = omega (arith, part_le amount rate count h, yield_le (amount / count) rate k)

pub amount_le : (x : ℤ) → in_amount x ≡ true → magnitude_of x ≤ 1000000000000
amount_le x h =
    let l = between 1 1000000000000 x h in
    let e = magnitude_is 1 1000000000000 x h in
    omega arith

-- an amount, a rate and a number of installments in range, as the lists' code has them
terms_are_in : (x : ℤ) (rate : ℕ) → in_amount x ≡ true → 1 ≤ rate → rate ≤ 10000 → Arguments.terms_ok (magnitude_of x) rate ≡ true
unfolding Arguments.terms_ok
terms_are_in x rate h l m =
    let b = between 1 1000000000000 x h in
    let e = magnitude_is 1 1000000000000 x h in
    simp (le-leb 1 (magnitude_of x) (omega arith), le-leb (magnitude_of x) 1000000000000 (amount_le x h), le-leb 1 rate l, le-leb rate 10000 m)

pub price_in : (x : ℤ) (rate count : ℕ) → in_amount x ≡ true → 1 ≤ rate → rate ≤ 10000 → count_ok count ≡ true → falling_ok (magnitude_of x) rate count 0 0 ≡ true
unfolding falling_ok due_ok
price_in x rate count h l m k = simp (k, le-leb 0 count (omega arith), le-leb 0 4000000000000000 (omega arith), terms_are_in x rate h l m)

-- the first installment of either kind can be stored, if it is not 0
pub first_le : (kind amount rate count : ℕ) → falling_ok amount rate count 0 0 ≡ true → first_of kind amount rate count ≤ 2000000000000
unfolding first_of
first_le kind amount rate count h =
    let i = falling_in amount rate count 0 0 h in
    either (λ (n : ℕ). n ≤ 2000000000000) (eqb kind falling_kind) _ _
    (λ t. omega (arith, falling_member_lem amount rate count 0 i.due.count_low, member_le amount rate count i.due.count_low i.terms.amount_high i.terms.rate_high 0))
    (λ t. whole_le amount rate count i.terms.amount_high i.terms.rate_high)

pub installment_le : (t : Terms) (kind count : ℕ) → TermsIn t → count_ok count ≡ true → installment_amount t kind count ≤ 2000000000000
unfolding installment_amount
installment_le t kind count h k = first_le kind (magnitude_of t.amount) t.rate count (price_in t.amount t.rate count h.amount h.rate_low h.rate_high k)

-- the answer for arguments in range
pub installment_valid : (t : Terms) (kind count : ℕ) → terms_ok t ≡ true → count_ok count ≡ true → kind_listed true kind ≡ true → installment_of t kind count ≡ (0, pos (installment_amount t kind count))
unfolding installment_of
installment_valid t kind count h k l = pick_on _ _ (rw (h, k, l))

-- an installment that is not 0 can be stored
pub installment_in : (t : Terms) (kind count : ℕ) → TermsIn t → count_ok count ≡ true → is_zero (pos (installment_amount t kind count)) ≡ false → in_installment (pos (installment_amount t kind count)) ≡ true
installment_in t kind count h m k =
    let n = installment_amount t kind count in
    let l = leb-false n 0 (simp leb-zero at k) in
    simp (le-leb 1 n (omega arith), le-leb n 2000000000000 (installment_le t kind count h m))

-- what is listed where one kind is, is where both are
pub listed_both : (kept : Bool) (kind : ℕ) → kind_listed kept kind ≡ true → kind_listed true kind ≡ true
unfolding kind_listed
listed_both true kind h = h
listed_both false kind h = by (eqb kind flat_kind) h
  where
    by : (b : Bool) → b || false ≡ true → b || eqb kind falling_kind ≡ true
    by true h = refl
    by false h = let z : false ≡ true = h in cc

pub listed_flat : (kind : ℕ) → kind_listed false kind ≡ true → kind ≡ flat_kind
unfolding kind_listed
listed_flat kind h = by (eqb kind flat_kind) refl h
  where
    by : (b : Bool) → eqb kind flat_kind ≡ b → b || false ≡ true → kind ≡ flat_kind
    by true e h = eqb-true kind flat_kind e
    by false e h = let z : false ≡ true = h in cc

-- a kind that is listed is a small number
pub listed_le : (kept : Bool) (kind : ℕ) → kind_listed kept kind ≡ true → kind ≤ 1
unfolding kind_listed
listed_le kept kind h = by (eqb kind flat_kind) (eqb kind falling_kind) refl refl (listed_both kept kind h)
  where
    by : (a b : Bool) → eqb kind flat_kind ≡ a → eqb kind falling_kind ≡ b → a || b ≡ true → kind ≤ 1
    by true b p q h = omega (arith, eqb-true kind flat_kind p)
    by false true p q h = omega (arith, eqb-true kind falling_kind q)
    by false false p q h = absurd (never h)

-- floor(amount/count) = 0 of a falling schedule needs no test of its own: its first installment is 0 there too
pub none_is : (t : Terms) (kind count : ℕ) → none_to_pay t kind count ≡ is_zero (installment_of t kind count).1
unfolding none_to_pay installment_of installment_amount first_of pick
none_is t kind count = by ((terms_ok t && count_ok count) && kind_listed true kind) refl
  where
    not_right : (b : Bool) → (b ≡ true → false ≡ true) → b ≡ false
    not_right true f = absurd (never (f refl))
    not_right false f = refl

    only : (a b : Bool) → (b ≡ true → a ≡ true) → a || b ≡ a
    only true b f = refl
    only false b f = not_right b f

    by : (ok : Bool) → (terms_ok t && count_ok count) && kind_listed true kind ≡ ok
        → is_zero (pick {A = ℕ × ℤ} ok (0, pos (installment_amount t kind count)) (3, pos 0)).1 || (eqb kind falling_kind && eqb (magnitude_of t.amount / count) 0) ≡ is_zero (pick {A = ℕ × ℤ} ok (0, pos (installment_amount t kind count)) (3, pos 0)).1
    by false e = refl
    by true e = only _ _ (λ h. zero (both _ _ (both _ _ e).0) (both _ _ h))
      where
        zero : (terms_ok t ≡ true) × (count_ok count ≡ true) → (eqb kind falling_kind ≡ true) × (eqb (magnitude_of t.amount / count) 0 ≡ true) → is_zero (pos (installment_amount t kind count)) ≡ true
        zero k h =
            let i = terms_in_lem t k.0 in
            let c = leb-true 1 count (both (leb 1 count) (leb count 1200) k.1).0 in
            rw (pick_on (get_or (falling (magnitude_of t.amount) t.rate count) 0 0) (part_of (magnitude_of t.amount) t.rate count) h.0, (first_share (magnitude_of t.amount) t.rate count c i.rate_high).1 (eqb-true _ 0 h.1))

-- two tests that are what two others are
pub and_is : {a b c d : Bool} → a ≡ b → c ≡ d → a && c ≡ b && d
and_is p q = rw (p, q)

pub record ScheduleIn (s : Schedule) : Type 0 where
  pub count_low : 1 ≤ s.count
  pub count_high : s.count ≤ 1200
  pub code : period_listed s.code ≡ true
  pub installment : in_installment s.installment ≡ true

pub schedule_in_lem : (s : Schedule) → schedule_in s ≡ true → ScheduleIn s
unfolding schedule_in
schedule_in_lem s h =
    let a = both (count_ok s.count && period_listed s.code) (in_installment s.installment) h in
    let b = both (count_ok s.count) (period_listed s.code) a.0 in
    let d = both (leb 1 s.count) (leb s.count 1200) b.0 in
    record { count_low = leb-true 1 s.count d.0; count_high = leb-true s.count 1200 d.1; code = b.1; installment = a.1 }

pub count_in_lem : (s : Schedule) → schedule_in s ≡ true → count_ok s.count ≡ true
unfolding schedule_in
count_in_lem s h = (both (count_ok s.count) (period_listed s.code) (both (count_ok s.count && period_listed s.code) (in_installment s.installment) h).0).0

-- the terms that it keeps
pub record KeptIn (s : Schedule) : Type 0 where
  pub amount : in_amount s.amount ≡ true
  pub rate_low : 1 ≤ s.rate
  pub rate_high : s.rate ≤ 10000
  pub kind : kind_listed true s.kind ≡ true
  pub first : s.installment ≡ pos (first_of s.kind (magnitude_of s.amount) s.rate s.count)

pub kept_in_lem : (s : Schedule) → keeps_ok s ≡ true → KeptIn s
unfolding keeps_ok
kept_in_lem s h =
    let a = both _ _ h in
    let k = both _ _ a.0 in
    let b = both _ _ k.0 in
    let c = both _ _ b.0 in
    record { amount = c.0; rate_low = leb-true 1 s.rate c.1; rate_high = leb-true s.rate 10000 b.1; kind = k.1; first = same_is _ _ a.1 }

-- a listed period is not 0, and neither is a stored installment
pub seconds_pos : (code : ℕ) → period_listed code ≡ true → 0 < seconds_of code
unfolding seconds_of pick
seconds_pos code h = by (eqb code 1) (eqb code 2) (eqb code 3) refl refl refl
  where
    by : (a b d : Bool) → eqb code 1 ≡ a → eqb code 2 ≡ b → eqb code 3 ≡ d → 0 < pick a 604800 (pick b 1209600 (pick d 2592000 0))
    by true b d p q r = omega arith
    by false true d p q r = omega arith
    by false false true p q r = omega arith
    by false false false p q r =
        let l = both (leb 1 code) (leb code 3) h in
        omega (arith, leb-true 1 code l.0, leb-true code 3 l.1, eqb-false code 1 p, eqb-false code 2 q, eqb-false code 3 r)

pub stored_pos : (s : Schedule) → ScheduleIn s → 0 < magnitude_of s.installment
stored_pos s h =
    let l = between 1 2000000000000 s.installment h.installment in
    let e = magnitude_is 1 2000000000000 s.installment h.installment in
    omega arith

pub repaid_le : (x : ℤ) → in_total x ≡ true → magnitude_of x ≤ 4000000000000000
repaid_le x h =
    let l = between 0 4000000000000000 x h in
    let e = magnitude_is 0 4000000000000000 x h in
    omega arith

pub stored_le : (s : Schedule) → ScheduleIn s → magnitude_of s.installment ≤ 2000000000000
stored_le s h =
    let l = between 1 2000000000000 s.installment h.installment in
    let e = magnitude_is 1 2000000000000 s.installment h.installment in
    omega arith

-- what the arguments of the due rule say
pub record DueIn (kept : Bool) (s : Schedule) (repaid : ℤ) : Type 0 where
  pub made : schedule_ok kept s ≡ true
  pub repaid_in : in_total repaid ≡ true

pub due_in_lem : (kept : Bool) (s : Schedule) (status : ℕ) (repaid : ℤ) → due_arguments kept s status repaid ≡ true → DueIn kept s repaid
unfolding due_arguments
due_in_lem kept s status repaid h =
    let a = both (schedule_ok kept s && leb status 5) (in_total repaid) h in
    record { made = (both (schedule_ok kept s) (leb status 5) a.0).0; repaid_in = a.1 }

pub made_in_lem : (kept : Bool) (s : Schedule) → schedule_ok kept s ≡ true → ScheduleIn s
unfolding schedule_ok
made_in_lem kept s h = schedule_in_lem s (both (schedule_in s) _ h).0

-- a schedule of numbers in range is one that can be stored, with its terms or without
pub made_ok : (kept : Bool) (t : Terms) (kind count code first : ℕ) → TermsIn t → kind_listed kept kind ≡ true → count_ok count ≡ true → period_listed code ≡ true → in_installment (pos (installment_amount t kind count)) ≡ true
    → schedule_ok kept (made_of kept t kind count code first (pos (installment_amount t kind count))) ≡ true
unfolding schedule_ok schedule_in keeps_ok keeps_none installment_amount
made_ok true t kind count code first i q h k m =
    let x = pos (first_of kind (magnitude_of t.amount) t.rate count) in
    simp (q, h, k, m, i.amount, le-leb 1 t.rate i.rate_low, le-leb t.rate 10000 i.rate_high, is_same x x refl)
made_ok false t kind count code first i q h k m = simp (h, k, m, eq-eqb kind flat_kind (listed_flat kind q))

-- the terms that a made schedule keeps
pub kept_terms : (s : Schedule) (kept : Bool) → kept ≡ true → schedule_ok kept s ≡ true → KeptIn s
unfolding schedule_ok
kept_terms s kept k h = kept_in_lem s (ap (λ (t : Bool). cond t (keeps_ok s) (keeps_none s)) (sym k) ∙ (both (schedule_in s) (cond kept (keeps_ok s) (keeps_none s)) h).1)

pub none_kept : (s : Schedule) → schedule_ok false s ≡ true → ◌≡◌ {A = ℤ × (ℕ × ℕ)} (s.amount, (s.rate, s.kind)) (pos 0, (0, flat_kind))
unfolding schedule_ok keeps_none
none_kept s h =
    let q = both (is_zero s.amount && eqb s.rate 0) (eqb s.kind flat_kind) (both (schedule_in s) _ h).1 in
    let k = both (is_zero s.amount) (eqb s.rate 0) q.0 in
    all_three (zero_is s.amount k.0) (eqb-true s.rate 0 k.1) (eqb-true s.kind flat_kind q.1)
  where
    all_three : {a b : ℤ} {c d e f : ℕ} → a ≡ b → c ≡ d → e ≡ f → ◌≡◌ {A = ℤ × (ℕ × ℕ)} (a, (c, e)) (b, (d, f))
    all_three p q r = rw (p, q, r)

pub total_ok : (s : Schedule) → KeptIn s → Arguments.terms_ok (magnitude_of s.amount) s.rate ≡ true
total_ok s k = terms_are_in s.amount s.rate k.amount k.rate_low k.rate_high

-- the installment that it stores, by its kind
module _ (s : Schedule) (k : KeptIn s) where
  pub flat_stored : eqb s.kind falling_kind ≡ false → magnitude_of s.installment ≡ part_of (magnitude_of s.amount) s.rate s.count
  unfolding first_of
  flat_stored n = ap magnitude_of k.first ∙ pick_off (get_or (falling (magnitude_of s.amount) s.rate s.count) 0 0) _ n

  pub falling_stored : eqb s.kind falling_kind ≡ true → magnitude_of s.installment ≡ get_or (falling (magnitude_of s.amount) s.rate s.count) 0 0
  unfolding first_of
  falling_stored y = ap magnitude_of k.first ∙ pick_on _ (part_of (magnitude_of s.amount) s.rate s.count) y

-- elapsed installments are installments
pub elapsed_le : (since period count : ℕ) → elapsed_of since period count ≤ count
unfolding elapsed_of
elapsed_le since period count = min-le_right (since / period + 1) count

-- THE LISTS: what the code's arguments are where the due rule's are in range
module _ (s : Schedule) (i : ScheduleIn s) (elapsed repaid : ℕ) (e : elapsed ≤ s.count) (r : repaid ≤ 4000000000000000) where
  due_ok_lem : due_ok s.count elapsed repaid ≡ true
  unfolding due_ok
  due_ok_lem = simp (le-leb 1 s.count i.count_low, le-leb s.count 1200 i.count_high, le-leb elapsed s.count e, le-leb repaid 4000000000000000 r)

  pub even_ok_lem : even_ok s.count (magnitude_of s.installment) elapsed repaid ≡ true
  unfolding even_ok
  even_ok_lem = simp (due_ok_lem, le-leb 1 (magnitude_of s.installment) (stored_pos s i), le-leb (magnitude_of s.installment) 2000000000000 (stored_le s i))

  pub falling_ok_lem : KeptIn s → falling_ok (magnitude_of s.amount) s.rate s.count elapsed repaid ≡ true
  falling_ok_lem k = falling_made (magnitude_of s.amount) s.rate s.count elapsed repaid (total_ok s k) due_ok_lem

  pub flat_ok_lem : KeptIn s → eqb s.kind falling_kind ≡ false → flat_ok s.count (magnitude_of s.installment) (total_of (magnitude_of s.amount) s.rate) elapsed repaid ≡ true
  flat_ok_lem k n =
      let p = part_of (magnitude_of s.amount) s.rate s.count in
      let q = flat_stored s k n in
      let l = between 1 1000000000000 s.amount k.amount in
      let m = magnitude_is 1 1000000000000 s.amount k.amount in
      rw q (flat_made (magnitude_of s.amount) s.rate s.count elapsed repaid (record { amount_low = omega arith; amount_high = amount_le s.amount k.amount; rate_low = k.rate_low; rate_high = k.rate_high }) due_ok_lem (omega (arith, stored_pos s i, q)))

-- before edition 5 the number is document 01's: paid = floor(amount_repaid/installment), compared whole; 0 if paid ≥ elapsed, else paid+1
pub old_number : (s : Schedule) → ScheduleIn s → (elapsed repaid : ℕ) → elapsed ≤ s.count → number_due (installments_of false s) elapsed repaid ≡ by_quotient (magnitude_of s.installment) elapsed repaid
unfolding installments_of
old_number s i elapsed repaid e = even_number s.count (magnitude_of s.installment) elapsed repaid (stored_pos s i) e

-- a falling schedule that was made repays something with each
pub share_some : (s : Schedule) → ScheduleIn s → KeptIn s → eqb s.kind falling_kind ≡ true → 1 ≤ magnitude_of s.amount / s.count
share_some s i k y = by (dec_le 1 (magnitude_of s.amount / s.count))
  where
    by : Dec (1 ≤ magnitude_of s.amount / s.count) → 1 ≤ magnitude_of s.amount / s.count
    by (yes h) = h
    by (no h) = absurd (omega (arith, stored_pos s i, falling_stored s k y, (first_share (magnitude_of s.amount) s.rate s.count i.count_low k.rate_high).1 (omega arith)))

-- the stored installment is the first of its list
pub stored_first : (s : Schedule) → schedule_ok true s ≡ true → magnitude_of s.installment ≡ get_or (installments_of true s) 0 0
unfolding installments_of kept_installments
stored_first s h =
    let i = made_in_lem true s h in
    let k = kept_terms s true refl h in
    either (λ (l : List ℕ). magnitude_of s.installment ≡ get_or l 0 0) (eqb s.kind falling_kind) _ _
    (falling_stored s k)
    (λ n. let q = flat_stored s k n in rw q (sym (parts_first (magnitude_of s.amount) s.rate s.count i.count_low)))

-- what is promised of a due holds of every schedule that was made
pub schedule_promises : (kept : Bool) (s : Schedule) → schedule_ok kept s ≡ true → (elapsed repaid : ℕ) → elapsed ≤ s.count → Promises (installments_of kept s) elapsed repaid
unfolding installments_of kept_installments
schedule_promises true s h elapsed repaid e =
    let i = made_in_lem true s h in
    let k = kept_terms s true refl h in
    either (λ (l : List ℕ). Promises l elapsed repaid) (eqb s.kind falling_kind) _ _
    (λ y. falling_promises (magnitude_of s.amount) s.rate s.count elapsed repaid (share_some s i k y) e)
    (λ n. let q = flat_stored s k n in rw q (flat_promises (magnitude_of s.amount) s.rate s.count elapsed repaid i.count_low (omega (arith, stored_pos s i, q)) e))
schedule_promises false s h elapsed repaid e = even_promises s.count (magnitude_of s.installment) elapsed repaid (stored_pos s (made_in_lem false s h)) e
