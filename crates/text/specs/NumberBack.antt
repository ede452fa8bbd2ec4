-- A number that is written is read back. Assumes nothing.
use Rattle.std.specs.Prelude.{◌≡◌, refl, Bool, true, false, ◌||◌, List, [], ◌∷◌, ◌++◌, ℕ, zero, suc, ◌+◌, ◌-◌, ◌*◌, ◌/◌, ◌%◌, ◌≤◌, ◌<◌, length, get_or, eqb, leb, ltb}
use Rattle.std.proofs.Common.{sym, ap, ◌∙◌, append_assoc, arith, length-append, ne_eqb, le-leb, lt-ltb, ltb-true, ltb-false}
use Rattle.std.proofs.Math.Seq.{get_or-append_seam}
use Rattle.refusal.specs.Choice.{pick}
use Rattle.refusal.specs.ChoiceLaws.{pick_on, pick_off}
use Rattle.sheet.specs.Decimal.{decimal_by, decimal_of}
use Rattle.journal.specs.Table.{top_of}
use Rattle.text.specs.Line.{is_signed, minus, signed_of, numeral_of}
use Rattle.text.specs.Reading.{is_digit, digits_in, value_in, numeral, is_plain, checked, natural_in, negated, signed_in, numeral_in}
use Rattle.text.specs.ReadingLaws.{digit_low, negative}
use Rattle.text.specs.Canonical.{signed_wide}

-- no digit stands first
abbrev pub Stop : List ℕ → Type 0
Stop z = is_digit (get_or z 0 0) ≡ false

stop_none : (z : List ℕ) → Stop z → digits_in z ≡ 0
unfolding digits_in
stop_none [] s = refl
stop_none (b ∷ z) s = pick_off _ _ s

-- what the text d of a number n is, whatever follows
pub record Told (d : List ℕ) (n : ℕ) : Type 0 where
  pub some : 0 < length d
  pub count : (z : List ℕ) → digits_in (d ++ z) ≡ length d + digits_in z
  pub value : (z : List ℕ) → value_in (d ++ z) (length d) ≡ n
  pub first : (z : List ℕ) → is_digit (get_or (d ++ z) 0 0) ≡ true
  pub plain : (z : List ℕ) → 0 < n → 48 < get_or (d ++ z) 0 0
  pub zero_short : n ≡ 0 → length d ≡ 1

is_digit_lem : (c : ℕ) → c < 10 → is_digit (48 + c) ≡ true
is_digit_lem c h = rw (le-leb 48 (48 + c) (omega arith), le-leb (48 + c) 57 (omega arith))

one_digit : (n : ℕ) → n < 10 → Told ((48 + n) ∷ []) n
unfolding digits_in value_in
one_digit n h = record {
  some = omega arith;
  count = λ z. pick_on _ _ (is_digit_lem n h) ∙ omega arith;
  value = λ z. omega arith;
  first = λ z. is_digit_lem n h;
  plain = λ z p. omega arith;
  zero_short = λ e. refl;
}

digit_cons : (c : ℕ) (z : List ℕ) → c < 10 → digits_in ((48 + c) ∷ z) ≡ suc (digits_in z)
unfolding digits_in
digit_cons c z h = pick_on _ _ (is_digit_lem c h)

value_suc : (t : List ℕ) (n : ℕ) → value_in t (suc n) ≡ value_in t n * 10 + (get_or t n 0 - 48)
unfolding value_in
value_suc t n = refl

more_digits : (d : List ℕ) (n c : ℕ) → c < 10 → 0 < n → Told d n → Told (d ++ ((48 + c) ∷ [])) (n * 10 + c)
more_digits d n c h p t =
    let l : length (d ++ ((48 + c) ∷ [])) ≡ suc (length d) = length-append d ((48 + c) ∷ []) ∙ omega arith in
    record {
      some = omega arith;
      count = λ z. rw (append_assoc d ((48 + c) ∷ []) z) (t.count ((48 + c) ∷ z) ∙ omega (arith, digit_cons c z h, l));
      value = λ z. rw (l, append_assoc d ((48 + c) ∷ []) z) (value_suc (d ++ ((48 + c) ∷ z)) (length d) ∙ rw (t.value ((48 + c) ∷ z), get_or-append_seam d (48 + c) z 0) (omega arith));
      first = λ z. rw (append_assoc d ((48 + c) ∷ []) z) (t.first ((48 + c) ∷ z));
      plain = λ z q. rw (append_assoc d ((48 + c) ∷ []) z) (t.plain ((48 + c) ∷ z) p);
      zero_short = λ e. absurd (omega arith);
    }

told_by : (b : Bool) (f n : ℕ) → ltb n 10 ≡ b → (10 ≤ n → Told (decimal_by f (n / 10)) (n / 10)) → Told (pick b ((48 + n) ∷ []) (decimal_by f (n / 10) ++ ((48 + n % 10) ∷ []))) n
unfolding pick
told_by true f n e i = one_digit n (ltb-true n 10 e)
told_by false f n e i =
    let h : 10 ≤ n = ltb-false n 10 e in
    let m : n / 10 * 10 + n % 10 ≡ n = omega arith in
    rw m at (more_digits (decimal_by f (n / 10)) (n / 10) (n % 10) (omega arith) (omega arith) (i h))

told : (f n : ℕ) → n ≤ f → Told (decimal_by f n) n
unfolding decimal_by
told zero n h = one_digit n (omega arith)
told (suc f) n h = told_by (ltb n 10) f n refl (λ k. told f (n / 10) (omega arith))

decimal_told : (n : ℕ) → Told (decimal_of n) n
unfolding decimal_of
decimal_told n = told n n (omega arith)

plain_is : (n m b : ℕ) → 0 < n → (m ≡ 0 → n ≡ 1) → (0 < m → 48 < b) → is_plain n b ≡ true
plain_is n zero b h f g = let e : n ≡ 1 = f refl in rw (lt-ltb 0 n h, le-leb n 1 (omega arith))
plain_is n (suc m) b h f g = rw (lt-ltb 0 n h, lt-ltb 48 b (g (omega arith))) (or-true (leb n 1))
  where
    or-true : (a : Bool) → a || true ≡ true
    or-true true = refl
    or-true false = refl

natural_back : (top v : ℕ) (z : List ℕ) → v ≤ top → Stop z → natural_in top (decimal_of v ++ z) ≡ numeral v (length (decimal_of v))
unfolding natural_in checked
natural_back top v z h s =
    let d = decimal_told v in
    let n : digits_in (decimal_of v ++ z) ≡ length (decimal_of v) = omega (arith, d.count z, stop_none z s) in
    rw (n, d.value z) (pick_on _ _ (rw (plain_is (length (decimal_of v)) v (get_or (decimal_of v ++ z) 0 0) d.some d.zero_short (d.plain z), le-leb v top h)))

first_not : (v : ℕ) (z : List ℕ) → eqb (get_or (decimal_of v ++ z) 0 0) 45 ≡ false
first_not v z = ne_eqb (get_or (decimal_of v ++ z) 0 0) 45 (λ e. omega (arith, digit_low (get_or (decimal_of v ++ z) 0 0) ((decimal_told v).first z)))

signed_by : (b : Bool) (x : ℕ) (z : List ℕ) → ltb x 9223372036854775808 ≡ b → x ≤ 18446744073709551615 → Stop z
    → signed_in (pick b (decimal_of x) (minus ++ decimal_of (18446744073709551616 - x)) ++ z) ≡ numeral x (length (pick b (decimal_of x) (minus ++ decimal_of (18446744073709551616 - x))))
unfolding pick signed_in
signed_by true x z e h s = rw (first_not x z) (natural_back 9223372036854775807 x z (omega (arith, ltb-true x 9223372036854775808 e)) s)
signed_by false x z e h s =
    let g : 9223372036854775808 ≤ x = ltb-false x 9223372036854775808 e in
    let m = 18446744073709551616 - x in
    let b = natural_back 9223372036854775808 m z (omega arith) s in
    let v : 18446744073709551616 - m ≡ x = omega arith in
    let l : length (decimal_of m) + 1 ≡ suc (length (decimal_of m)) = omega arith in
    ap negated b ∙ sym (negative (numeral m (length (decimal_of m))) (lt-ltb 0 m (omega arith))) ∙ rw (v, l)

numeral_by : (b : Bool) (f x : ℕ) (z : List ℕ) → is_signed f ≡ b → x ≤ top_of f → Stop z
    → pick b (signed_in (pick b (signed_of x) (decimal_of x) ++ z)) (natural_in (top_of f) (pick b (signed_of x) (decimal_of x) ++ z)) ≡ numeral x (length (pick b (signed_of x) (decimal_of x)))
unfolding pick signed_of
numeral_by true f x z e h s = signed_by (ltb x 9223372036854775808) x z refl (omega (arith, signed_wide f e)) s
numeral_by false f x z e h s = natural_back (top_of f) x z h s

pub numeral_back : (f x : ℕ) (z : List ℕ) → x ≤ top_of f → Stop z → numeral_in f (numeral_of f x ++ z) ≡ numeral x (length (numeral_of f x))
unfolding numeral_in numeral_of
numeral_back f x z h s = numeral_by (is_signed f) f x z refl h s
