-- What reading a line goes by, byte for byte. Assumes nothing.
use Rattle.std.specs.Prelude.{◌≡◌, refl, Bool, true, false, ◌&&◌, List, [], ◌∷◌, length, get_or, drop, eqb, leb, ltb}
use Rattle.std.specs.List.{starts_with}
use Rattle.std.proofs.Common.{sym, ap, ◌∙◌, add-zero, add-one, length-drop, get_or-drop}
use Prim.Native.Nat.{ℕ, zero, suc, ◌+◌, ◌-◌, ◌*◌, ◌≤◌, ◌<◌}
use native.Mathlib.Omega.{arith}
use Rattle.std.proofs.Math.Seq.{drop-cons, drop-length}
use borrow.Author.Tests.{eq-eqb, ne_eqb, eqb-true, lt-leb, leb-true, le-ltb, lt-ltb, ltb-true, ltb-false}
use Rattle.refusal.specs.Choice.{pick}
use Rattle.refusal.specs.ChoiceLaws.{either, pick_on, pick_off, on, off}
use Rattle.wire.specs.FieldLaws.{and_left, and_right}
use Rattle.journal.specs.FieldLaws.{and_off}
use Rattle.journal.specs.Table.{top_of}
use Rattle.text.specs.Names.{word_of}
use Rattle.text.specs.Line.{is_signed}
use Rattle.text.specs.Reading.{leads, is_named, tag_by, tag_in, is_digit, digits_in, value_in, numeral, no_numeral, is_plain, checked, natural_in, negated, signed_in, numeral_in, spaced_in}
use Rattle.text.specs.declared.reading.Numeral.{Numeral}

pub drop_all : (n : ℕ) (l : List ℕ) → length l ≤ n → drop n l ≡ []
drop_all zero [] h = refl
drop_all zero (x ∷ l) h = absurd (omega arith)
drop_all (suc n) [] h = refl
drop_all (suc n) (x ∷ l) h = drop_all n l (omega arith)

-- past the end every byte counts as 0
pub past_end : (l : List ℕ) (p : ℕ) → length l ≤ p → get_or l p 0 ≡ 0
past_end [] p h = refl
past_end (x ∷ l) zero h = absurd (omega arith)
past_end (x ∷ l) (suc p) h = past_end l p (omega arith)

pub there : (l : List ℕ) (p : ℕ) {b : ℕ} → get_or l p 0 ≡ b → 0 < b → p < length l
there [] p e h = absurd (omega arith)
there (x ∷ l) zero e h = omega arith
there (x ∷ l) (suc p) e h = omega (arith, there l p e h)

-- ---- a name: std's test is ours

pub eqb_no : (x y : ℕ) → eqb x y ≡ false → x ≡ y → ⊥
eqb_no x y e h = let z : true ≡ false = sym (eq-eqb x y h) ∙ e in cc

eqb_flip : (x y : ℕ) → eqb x y ≡ eqb y x
eqb_flip x y = go (eqb x y) refl
  where
    go : (t : Bool) → eqb x y ≡ t → eqb x y ≡ eqb y x
    go true e = e ∙ sym (eq-eqb y x (sym (eqb-true x y e)))
    go false e = e ∙ sym (ne_eqb y x (λ h. eqb_no x y e (sym h)))

pub leads_starts : (w t : List ℕ) → starts_with eqb t w ≡ leads w t
unfolding leads
leads_starts [] t = refl
leads_starts (x ∷ w) [] = refl
leads_starts (x ∷ w) (y ∷ t) = rw (eqb_flip x y) (ap (λ (b : Bool). eqb y x && b) (leads_starts w t))

-- ---- a name: the first i bytes are the same

module _ (w t : List ℕ) (i : ℕ) (h : i < length w) where
  pub lead_out : length t ≤ i → leads (drop i w) (drop i t) ≡ false
  unfolding leads
  lead_out k = rw (drop-cons w i 0 h, drop_all i t k)

  pub lead_not : i < length t → (get_or t i 0 ≡ get_or w i 0 → ⊥) → leads (drop i w) (drop i t) ≡ false
  unfolding leads
  lead_not k n = rw (drop-cons w i 0 h, drop-cons t i 0 k, ne_eqb (get_or t i 0) (get_or w i 0) n)

  pub lead_on : i < length t → get_or t i 0 ≡ get_or w i 0 → leads (drop i w) (drop i t) ≡ leads (drop (i + 1) w) (drop (i + 1) t)
  unfolding leads
  lead_on k e = rw (add-one i, drop-cons w i 0 h, drop-cons t i 0 k, eq-eqb (get_or t i 0) (get_or w i 0) e)

pub lead_done : (w t : List ℕ) (i : ℕ) → i ≡ length w → leads (drop i w) t ≡ true
unfolding leads
lead_done w t i e = rw (e, drop-length w)

-- ---- the tag

module _ (past : ℕ) (t : List ℕ) (k : ℕ) where
  pub tag_here : k < past → is_named k t ≡ true → tag_by (past - k) k t ≡ k
  unfolding tag_by
  tag_here h e = let n : past - k ≡ suc (past - (k + 1)) = omega arith in rw n (pick_on _ _ e)

  pub tag_on : k < past → is_named k t ≡ false → tag_by (past - k) k t ≡ tag_by (past - (k + 1)) (k + 1) t
  unfolding tag_by
  tag_on h e = let n : past - k ≡ suc (past - (k + 1)) = omega arith in rw n (pick_off _ _ e)

  pub no_tag : past ≤ k → tag_by (past - k) k t ≡ 0
  unfolding tag_by
  no_tag h = let e : past - k ≡ 0 = omega arith in rw e

-- the tag m that is found is one of the n from k on, and its name stands there
pub record Among (n k : ℕ) (t : List ℕ) (m : ℕ) : Type 0 where
  pub low : k ≤ m
  pub high : m < k + n
  pub word : 0 < length (word_of m)
  pub stands : leads (word_of m) t ≡ true

among : (n k : ℕ) (t : List ℕ) → 0 < tag_by n k t → Among n k t (tag_by n k t)
unfolding tag_by is_named
among zero k t h = absurd (omega arith)
among (suc n) k t h =
    either (λ (m : ℕ). 0 < m → Among (suc n) k t m) (is_named k t) k (tag_by n (k + 1) t)
    (λ e z. record { low = omega arith; high = omega arith; word = ltb-true 0 (length (word_of k)) (and_left _ (leads (word_of k) t) e); stands = and_right (ltb 0 (length (word_of k))) _ e })
    (λ e z. let i = among n (k + 1) t z in record { low = omega arith; high = omega arith; word = i.word; stands = i.stands })
    h

pub tag_among : (from past : ℕ) (t : List ℕ) {k : ℕ} → k ≡ tag_in from past t → 0 < k → Among (past - from) from t k
unfolding tag_in
tag_among from past t e h = rw e (among (past - from) from t (rw e at h))

pub leads_room : (w t : List ℕ) → leads w t ≡ true → length w ≤ length t
unfolding leads
leads_room [] t e = omega arith
leads_room (x ∷ w) [] e = let z : false ≡ true = e in let y : ◌≡◌ {A = ℕ} 0 1 = cc in absurd (omega arith)
leads_room (x ∷ w) (y ∷ t) e = omega (arith, leads_room w t (and_right (eqb y x) (leads w t) e))

-- ---- a number: n digits are read, and their value is v

pub record Run (t : List ℕ) (n v : ℕ) : Type 0 where
  pub inside : n ≤ length t
  pub count : digits_in t ≡ n + digits_in (drop n t)
  pub value : v ≡ value_in t n

pub run_none : (t : List ℕ) → Run t 0 0
unfolding value_in
run_none t = record { inside = omega arith; count = omega arith; value = refl }

pub digit_low : (b : ℕ) → is_digit b ≡ true → 48 ≤ b
digit_low b e = leb-true 48 b (and_left (leb 48 b) (leb b 57) e)

pub digit_high : (b : ℕ) → is_digit b ≡ true → b ≤ 57
digit_high b e = leb-true b 57 (and_right (leb 48 b) (leb b 57) e)

pub digit_there : (t : List ℕ) (n : ℕ) → is_digit (get_or t n 0) ≡ true → n < length t
digit_there t n e = there t n refl (omega (arith, digit_low (get_or t n 0) e))

pub run_on : {t : List ℕ} {n v : ℕ} → Run t n v → is_digit (get_or t n 0) ≡ true → Run t (n + 1) (v * 10 + (get_or t n 0 - 48))
unfolding digits_in value_in
run_on {t} {n} {v} r e =
    let l : n < length t = digit_there t n e in
    let d : digits_in (drop n t) ≡ suc (digits_in (drop (suc n) t)) = rw (drop-cons t n 0 l) (pick_on _ _ e) in
    record { inside = omega arith; count = rw (add-one n) (omega (arith, r.count)); value = rw (add-one n, r.value) }

no_digits : (t : List ℕ) (n : ℕ) (b : Bool) → ltb n (length t) ≡ b → is_digit (get_or t n 0) ≡ false → digits_in (drop n t) ≡ 0
unfolding digits_in
no_digits t n true l e = rw (drop-cons t n 0 (ltb-true n (length t) l)) (pick_off _ _ e)
no_digits t n false l e = rw (drop_all n t (ltb-false n (length t) l))

pub run_done : {t : List ℕ} {n v : ℕ} (top : ℕ) → Run t n v → is_digit (get_or t n 0) ≡ false → checked top n (get_or t 0 0) v ≡ natural_in top t
unfolding natural_in
run_done {t} {n} top r e =
    let c : digits_in t ≡ n = omega (arith, r.count, no_digits t n (ltb n (length t)) refl e) in
    rw (c, r.value)

values_grow : (t : List ℕ) (i k m : ℕ) → m ≡ k + i → value_in t i ≤ value_in t m
unfolding value_in
values_grow t i zero m e = let d : m ≡ i = omega arith in rw d (omega arith)
values_grow t i (suc k) m e = let d : m ≡ suc (k + i) = omega arith in rw d (omega (arith, values_grow t i k (k + i) refl))

pub run_large : {t : List ℕ} {n v : ℕ} (top : ℕ) → Run t n v → is_digit (get_or t n 0) ≡ true → top < v * 10 + (get_or t n 0 - 48) → no_numeral ≡ natural_in top t
unfolding natural_in checked
run_large {t} {n} {v} top r e h =
    let q = run_on r e in
    let d : digits_in t ≡ digits_in (drop (n + 1) t) + (n + 1) = omega (arith, q.count) in
    let g : top < value_in t (digits_in t) = omega (arith, values_grow t (n + 1) (digits_in (drop (n + 1) t)) (digits_in t) d, q.value) in
    sym (pick_off _ _ (rw (lt-leb (value_in t (digits_in t)) top g) (and_off (is_plain (digits_in t) (get_or t 0 0)))))

-- how many bytes a number takes
digits_most : (t : List ℕ) → digits_in t ≤ length t
unfolding digits_in pick
digits_most [] = omega arith
digits_most (b ∷ t) = go (is_digit b) (digits_most t)
  where
    go : (x : Bool) → digits_in t ≤ length t → pick x (suc (digits_in t)) 0 ≤ suc (length t)
    go true h = omega arith
    go false h = omega arith

checked_size : (x : Bool) (v n : ℕ) → (pick x (numeral v n) no_numeral).size ≤ n
unfolding pick
checked_size true v n = omega arith
checked_size false v n = omega arith

pub natural_size : (top : ℕ) (t : List ℕ) → (natural_in top t).size ≤ length t
unfolding natural_in checked
natural_size top t = omega (arith, checked_size (is_plain (digits_in t) (get_or t 0 0) && leb (value_in t (digits_in t)) top) (value_in t (digits_in t)) (digits_in t), digits_most t)

negated_size : (x : Numeral) → (negated x).size ≤ x.size + 1
unfolding negated
negated_size x = checked_size (x.ok && ltb 0 x.value) (18446744073709551616 - x.value) (x.size + 1)

signed_by : (b : Bool) (t : List ℕ) → eqb (get_or t 0 0) 45 ≡ b → (pick b (negated (natural_in 9223372036854775808 (drop 1 t))) (natural_in 9223372036854775807 t)).size ≤ length t
unfolding pick
signed_by true t e =
    omega (arith, negated_size (natural_in 9223372036854775808 (drop 1 t)), natural_size 9223372036854775808 (drop 1 t), length-drop 1 t, there t 0 (eqb-true (get_or t 0 0) 45 e) (omega arith))
signed_by false t e = natural_size 9223372036854775807 t

numeral_by : (b : Bool) (f : ℕ) (t : List ℕ) → (pick b (signed_in t) (natural_in (top_of f) t)).size ≤ length t
unfolding pick signed_in
numeral_by true f t = signed_by (eqb (get_or t 0 0) 45) t refl
numeral_by false f t = natural_size (top_of f) t

pub numeral_size : (f : ℕ) (t : List ℕ) → (numeral_in f t).size ≤ length t
unfolding numeral_in
numeral_size f t = numeral_by (is_signed f) f t

spaced_by : (b : Bool) (f : ℕ) (t : List ℕ) → eqb (get_or t 0 0) 32 ≡ b → (pick b (numeral_in f (drop 1 t)) no_numeral).ok ≡ true → (pick b (numeral_in f (drop 1 t)) no_numeral).size + 1 ≤ length t
unfolding pick
spaced_by true f t e h = omega (arith, numeral_size f (drop 1 t), length-drop 1 t, there t 0 (eqb-true (get_or t 0 0) 32 e) (omega arith))
spaced_by false f t e h = let y : ◌≡◌ {A = ℕ} 0 1 = cc in absurd (omega arith)

pub spaced_size : (f : ℕ) (t : List ℕ) → (spaced_in f t).ok ≡ true → (spaced_in f t).size + 1 ≤ length t
unfolding spaced_in
spaced_size f t h = spaced_by (eqb (get_or t 0 0) 32) f t refl h

-- ---- the answers at a name, at a number and at a space

pub first-of : (s : List ℕ) (at : ℕ) → get_or (drop at s) 0 0 ≡ get_or s at 0
first-of s at = get_or-drop at s 0 0 ∙ ap (λ (k : ℕ). get_or s k 0) (add-zero at)

module _ (k : ℕ) (t : List ℕ) where
  pub no_name : length (word_of k) ≡ 0 → false ≡ is_named k t
  unfolding is_named
  no_name e = rw (le-ltb 0 (length (word_of k)) (omega arith))

  pub some_name : (length (word_of k) ≡ 0 → ⊥) → leads (word_of k) t ≡ is_named k t
  unfolding is_named
  some_name e = rw (lt-ltb 0 (length (word_of k)) (omega (arith, e)))

module _ (f : ℕ) (t : List ℕ) {r : Numeral} where
  pub plain_number : is_signed f ≡ false → r ≡ natural_in (top_of f) t → r ≡ numeral_in f t
  unfolding numeral_in
  plain_number e h = off _ e h

  pub positive_number : is_signed f ≡ true → (get_or t 0 0 ≡ 45 → ⊥) → r ≡ natural_in 9223372036854775807 t → r ≡ numeral_in f t
  unfolding numeral_in signed_in
  positive_number e n h = on _ e (off _ (ne_eqb (get_or t 0 0) 45 n) h)

  pub negative_number : is_signed f ≡ true → get_or t 0 0 ≡ 45 → r ≡ negated (natural_in 9223372036854775808 (drop 1 t)) → r ≡ numeral_in f t
  unfolding numeral_in signed_in
  negative_number e n h = on _ e (on _ (eq-eqb (get_or t 0 0) 45 n) h)

  pub no_space : (get_or t 0 0 ≡ 32 → ⊥) → r ≡ no_numeral → r ≡ spaced_in f t
  unfolding spaced_in
  no_space n h = off _ (ne_eqb (get_or t 0 0) 32 n) h

  pub after_space : get_or t 0 0 ≡ 32 → r ≡ numeral_in f (drop 1 t) → r ≡ spaced_in f t
  unfolding spaced_in
  after_space n h = on _ (eq-eqb (get_or t 0 0) 32 n) h

pub no_negative : (x : Numeral) → x.ok && ltb 0 x.value ≡ false → no_numeral ≡ negated x
unfolding negated
no_negative x e = off _ e refl

pub negative : (x : Numeral) → x.ok && ltb 0 x.value ≡ true → numeral (18446744073709551616 - x.value) (x.size + 1) ≡ negated x
unfolding negated
negative x e = on _ e refl
