-- A text that reads as commands is the lines of those commands. Assumes nothing.
use Rattle.std.specs.Prelude.{◌≡◌, refl, Bool, true, false, ◌&&◌, ◌||◌, List, [], ◌∷◌, ◌++◌, ℕ, zero, suc, ◌+◌, ◌-◌, ◌*◌, ◌/◌, ◌%◌, ◌≤◌, ◌<◌, length, get_or, take, drop, eqb, leb, ltb}
use Rattle.std.proofs.Common.{sym, ap, ◌∙◌, arith, take-suc, take-add, eqb-true, leb-true, ltb-true, le-ltb, lt-ltb}
use Rattle.std.proofs.lemmas.Bool.{lt-leb}
use Rattle.refusal.specs.Choice.{pick}
use Rattle.refusal.specs.ChoiceLaws.{pick_on, pick_off}
use Rattle.wire.specs.FieldLaws.{and_left, and_right}
use Rattle.sheet.specs.Decimal.{decimal_of, space}
use Rattle.sheet.specs.DecimalLaws.{decimal_again}
use Rattle.journal.specs.Table.{top_of}
use Rattle.journal.specs.HeldLaws.{Tops}
use Rattle.text.specs.Line.{is_signed, minus, signed_of, numeral_of, numerals_of}
use Rattle.text.specs.Reading.{leads, is_digit, digits_in, value_in, numeral, no_numeral, is_plain, checked, natural_in, negated, signed_in, numeral_in, Read, unread, joined, spaced_in, read_in}
use Rattle.text.specs.ReadingLaws.{there, digit_low, digit_high, digit_there}
use Rattle.text.specs.declared.reading.Numeral.{Numeral}

-- a name
pub leads_take : (w t : List ℕ) → leads w t ≡ true → take (length w) t ≡ w
unfolding leads
leads_take [] t e = refl
leads_take (x ∷ w) [] e = let y : ◌≡◌ {A = ℕ} 0 1 = cc in absurd (omega arith)
leads_take (x ∷ w) (y ∷ t) e =
    let h : y ≡ x = eqb-true y x (and_left (eqb y x) (leads w t) e) in
    ap (λ (l : List ℕ). y ∷ l) (leads_take w t (and_right (eqb y x) (leads w t) e)) ∙ ap (λ (z : ℕ). z ∷ w) h

-- digits: each of the first n bytes is one
pub digit_at : (t : List ℕ) (i : ℕ) → i < digits_in t → is_digit (get_or t i 0) ≡ true
unfolding digits_in pick
digit_at [] i h = absurd (omega arith)
digit_at (b ∷ t) i h = go (is_digit b) refl i (λ j k. digit_at t j k) h
  where
    go : (x : Bool) → is_digit b ≡ x → (j : ℕ) → ((m : ℕ) → m < digits_in t → is_digit (get_or t m 0) ≡ true) → j < pick x (suc (digits_in t)) 0 → is_digit (get_or (b ∷ t) j 0) ≡ true
    go true e zero f k = e
    go true e (suc j) f k = f j (omega arith)
    go false e j f k = absurd (omega arith)

-- without a zero before them they are the number's
positive : (t : List ℕ) (n : ℕ) → n < digits_in t → 48 < get_or t 0 0 → 0 < value_in t (suc n)
unfolding value_in
positive t zero h k = omega arith
positive t (suc n) h k = omega (arith, positive t n (omega arith) k)

value_digits : (t : List ℕ) (n : ℕ) → n < digits_in t → (0 < n → 48 < get_or t 0 0) → n < length t → decimal_of (value_in t (suc n)) ≡ take (suc n) t
unfolding value_in
value_digits t zero h k l =
    let d = digit_at t 0 h in
    let v : 0 * 10 + (get_or t 0 0 - 48) ≡ get_or t 0 0 - 48 = omega arith in
    let e : 48 + (get_or t 0 0 - 48) ≡ get_or t 0 0 = omega (arith, digit_low (get_or t 0 0) d) in
    rw (v, take-suc t 0 0 l, decimal_again (get_or t 0 0 - 48)) (pick_on _ _ (lt-ltb (get_or t 0 0 - 48) 10 (omega (arith, digit_high (get_or t 0 0) d))) ∙ ap (λ (x : ℕ). x ∷ []) e)
value_digits t (suc n) h k l =
    let d = digit_at t (suc n) h in
    let v = value_in t (suc n) in
    let c = get_or t (suc n) 0 - 48 in
    let p : 0 < v = positive t n (omega arith) (k (omega arith)) in
    let lo = digit_low (get_or t (suc n) 0) d in
    let hi = digit_high (get_or t (suc n) 0) d in
    let q : (v * 10 + c) / 10 ≡ v = omega arith in
    let r : (v * 10 + c) % 10 ≡ c = omega arith in
    let e : 48 + c ≡ get_or t (suc n) 0 = omega arith in
    decimal_again (v * 10 + c) ∙ pick_off _ _ (le-ltb (v * 10 + c) 10 (omega arith))
    ∙ rw (q, r, e, value_digits t n (omega arith) (λ z. k (omega arith)) (omega arith)) (sym (take-suc t (suc n) 0 l))

-- a number's bytes are those that writing it gives, and it is in range
pub record Spelt (x : Numeral) (t w : List ℕ) (top : ℕ) : Type 0 where
  pub bytes : take x.size t ≡ w
  pub most : x.value ≤ top

is_ok : (b : Bool) (v n : ℕ) → (pick b (numeral v n) no_numeral).ok ≡ true → b ≡ true
unfolding pick
is_ok true v n e = refl
is_ok false v n e = e

no_zero : (n b : ℕ) → is_plain (suc (suc n)) b ≡ true → 48 < b
no_zero n b e = let z : leb (suc (suc n)) 1 ≡ false = lt-leb (suc (suc n)) 1 (omega arith) in ltb-true 48 b (rw z at (and_right (ltb 0 (suc (suc n))) _ e))

plain_digits : (t : List ℕ) (n : ℕ) → digits_in t ≡ n → is_plain n (get_or t 0 0) ≡ true → take n t ≡ decimal_of (value_in t n)
plain_digits t zero d e = let y : ◌≡◌ {A = ℕ} 0 1 = cc in absurd (omega arith)
plain_digits t (suc zero) d e = sym (value_digits t 0 (omega arith) (λ z. absurd (omega arith)) (digit_there t 0 (digit_at t 0 (omega arith))))
plain_digits t (suc (suc n)) d e = sym (value_digits t (suc n) (omega arith) (λ z. no_zero n (get_or t 0 0) e) (digit_there t (suc n) (digit_at t (suc n) (omega arith))))

natural_spelt : (top : ℕ) (t : List ℕ) → (natural_in top t).ok ≡ true → Spelt (natural_in top t) t (decimal_of (natural_in top t).value) top
unfolding natural_in checked
natural_spelt top t o =
    let n = digits_in t in
    let v = value_in t n in
    let b = is_ok (is_plain n (get_or t 0 0) && leb v top) v n o in
    let e : natural_in top t ≡ numeral v n = pick_on _ _ b in
    rw e record {
      bytes = plain_digits t n refl (and_left (is_plain n (get_or t 0 0)) (leb v top) b);
      most = leb-true v top (and_right (is_plain n (get_or t 0 0)) (leb v top) b);
    }

-- 05 and 0F hold any number of 64 bits
wide_by : (a b : Bool) (f : ℕ) → eqb f 5 ≡ a → eqb f 15 ≡ b → a || b ≡ true → top_of f ≡ 18446744073709551615
unfolding top_of pick
wide_by true b f p q e = rw (eqb-true f 5 p)
wide_by false true f p q e = rw (eqb-true f 15 q)
wide_by false false f p q e = let y : ◌≡◌ {A = ℕ} 0 1 = cc in absurd (omega arith)

pub signed_wide : (f : ℕ) → is_signed f ≡ true → top_of f ≡ 18446744073709551615
signed_wide f e = wide_by (eqb f 5) (eqb f 15) f refl refl e

negated_ok : (x : Numeral) → (negated x).ok ≡ true → x.ok ≡ true
unfolding negated
negated_ok x o = and_left x.ok (ltb 0 x.value) (is_ok (x.ok && ltb 0 x.value) (18446744073709551616 - x.value) (x.size + 1) o)

minus_by : (t : List ℕ) (x : Numeral) → get_or t 0 0 ≡ 45 → Spelt x (drop 1 t) (decimal_of x.value) 9223372036854775808 → (negated x).ok ≡ true → Spelt (negated x) t (signed_of (negated x).value) 18446744073709551615
unfolding negated signed_of
minus_by t x g s o =
    let b = is_ok (x.ok && ltb 0 x.value) (18446744073709551616 - x.value) (x.size + 1) o in
    let p : 0 < x.value = ltb-true 0 x.value (and_right x.ok _ b) in
    let e : negated x ≡ numeral (18446744073709551616 - x.value) (x.size + 1) = pick_on _ _ b in
    let v : 18446744073709551616 - (18446744073709551616 - x.value) ≡ x.value = omega (arith, s.most) in
    let l : 0 < length t = there t 0 g (omega arith) in
    let m : x.size + 1 ≡ 1 + x.size = omega arith in
    let c : take (x.size + 1) t ≡ minus ++ take x.size (drop 1 t) = ap (λ (n : ℕ). take n t) m ∙ take-add 1 x.size t ∙ ap (λ (w : List ℕ). w ++ take x.size (drop 1 t)) (take-suc t 0 0 l ∙ ap (λ (k : ℕ). k ∷ []) g) in
    rw e record {
      bytes = c ∙ ap (λ (w : List ℕ). minus ++ w) s.bytes ∙ sym (pick_off _ _ (le-ltb (18446744073709551616 - x.value) 9223372036854775808 (omega (arith, s.most))) ∙ ap (λ (n : ℕ). minus ++ decimal_of n) v);
      most = omega arith;
    }

plus_by : (t : List ℕ) (x : Numeral) → Spelt x t (decimal_of x.value) 9223372036854775807 → Spelt x t (signed_of x.value) 18446744073709551615
unfolding signed_of
plus_by t x s = record { bytes = s.bytes ∙ sym (pick_on _ _ (lt-ltb x.value 9223372036854775808 (omega (arith, s.most)))); most = omega (arith, s.most) }

signed_by : (b : Bool) (t : List ℕ) → eqb (get_or t 0 0) 45 ≡ b → (pick b (negated (natural_in 9223372036854775808 (drop 1 t))) (natural_in 9223372036854775807 t)).ok ≡ true
    → Spelt (pick b (negated (natural_in 9223372036854775808 (drop 1 t))) (natural_in 9223372036854775807 t)) t (signed_of (pick b (negated (natural_in 9223372036854775808 (drop 1 t))) (natural_in 9223372036854775807 t)).value) 18446744073709551615
unfolding pick
signed_by true t g o =
    let x = natural_in 9223372036854775808 (drop 1 t) in
    minus_by t x (eqb-true (get_or t 0 0) 45 g) (natural_spelt 9223372036854775808 (drop 1 t) (negated_ok x o)) o
signed_by false t g o = plus_by t (natural_in 9223372036854775807 t) (natural_spelt 9223372036854775807 t o)

numeral_by : (b : Bool) (f : ℕ) (t : List ℕ) → is_signed f ≡ b → (pick b (signed_in t) (natural_in (top_of f) t)).ok ≡ true
    → Spelt (pick b (signed_in t) (natural_in (top_of f) t)) t (pick b (signed_of (pick b (signed_in t) (natural_in (top_of f) t)).value) (decimal_of (pick b (signed_in t) (natural_in (top_of f) t)).value)) (top_of f)
unfolding pick signed_in
numeral_by true f t g o = rw (signed_wide f g) (signed_by (eqb (get_or t 0 0) 45) t refl o)
numeral_by false f t g o = natural_spelt (top_of f) t o

numeral_spelt : (f : ℕ) (t : List ℕ) → (numeral_in f t).ok ≡ true → Spelt (numeral_in f t) t (numeral_of f (numeral_in f t).value) (top_of f)
unfolding numeral_in numeral_of
numeral_spelt f t o = numeral_by (is_signed f) f t refl o

spaced_by : (b : Bool) (f : ℕ) (t : List ℕ) → eqb (get_or t 0 0) 32 ≡ b → (pick b (numeral_in f (drop 1 t)) no_numeral).ok ≡ true
    → (take ((pick b (numeral_in f (drop 1 t)) no_numeral).size + 1) t ≡ space ++ numeral_of f (pick b (numeral_in f (drop 1 t)) no_numeral).value) × ((pick b (numeral_in f (drop 1 t)) no_numeral).value ≤ top_of f)
unfolding pick
spaced_by true f t g o =
    let x = numeral_in f (drop 1 t) in
    let s = numeral_spelt f (drop 1 t) o in
    let l : 0 < length t = there t 0 (eqb-true (get_or t 0 0) 32 g) (omega arith) in
    let m : x.size + 1 ≡ 1 + x.size = omega arith in
    let c : take (x.size + 1) t ≡ space ++ take x.size (drop 1 t) = ap (λ (n : ℕ). take n t) m ∙ take-add 1 x.size t ∙ ap (λ (w : List ℕ). w ++ take x.size (drop 1 t)) (take-suc t 0 0 l ∙ ap (λ (k : ℕ). k ∷ []) (eqb-true (get_or t 0 0) 32 g)) in
    (c ∙ ap (λ (w : List ℕ). space ++ w) s.bytes, s.most)
spaced_by false f t g o = let y : ◌≡◌ {A = ℕ} 0 1 = cc in absurd (omega arith)

spaced_spelt : (f : ℕ) (t : List ℕ) → (spaced_in f t).ok ≡ true → (take ((spaced_in f t).size + 1) t ≡ space ++ numeral_of f (spaced_in f t).value) × ((spaced_in f t).value ≤ top_of f)
unfolding spaced_in
spaced_spelt f t o = spaced_by (eqb (get_or t 0 0) 32) f t refl o

-- the numbers of a line
ok_both : (b : Bool) (x : Numeral) (r : Read) → (pick b (joined x r) unread).ok ≡ true → b ≡ true
unfolding pick
ok_both true x r e = refl
ok_both false x r e = e

pub read_spelt : (fs t : List ℕ) → (read_in fs t).ok ≡ true → (take (read_in fs t).size t ≡ numerals_of fs (read_in fs t).values) × Tops fs (read_in fs t).values
unfolding read_in numerals_of
read_spelt [] t o = (refl, tt)
read_spelt (f ∷ fs) t o =
    let x = spaced_in f t in
    let r = read_in fs (drop (x.size + 1) t) in
    let b = ok_both (x.ok && r.ok) x r o in
    let s = spaced_spelt f t (and_left x.ok r.ok b) in
    let i = read_spelt fs (drop (x.size + 1) t) (and_right x.ok r.ok b) in
    let e : read_in (f ∷ fs) t ≡ joined x r = pick_on _ _ b in
    rw e (take-add (x.size + 1) r.size t ∙ ap (λ (w : List ℕ). w ++ take r.size (drop (x.size + 1) t)) s.0 ∙ ap (λ (w : List ℕ). (space ++ numeral_of f x.value) ++ w) i.0, (s.1, i.1))
