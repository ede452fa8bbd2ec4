-- What the lists of names say of a tag. Assumes nothing.
use Rattle.std.specs.Prelude.{◌≡◌, refl, Bool, true, false, not, ◌&&◌, List, [], ◌∷◌, ℕ, ◌<◌, length, eqb, ltb}
use Rattle.std.proofs.Common.{sym, ap, ◌∙◌, arith, ne_eqb, eqb-true, ltb-true}
use Rattle.std.proofs.lemmas.Bool.{not-true}
use Rattle.refusal.specs.Choice.{pick}
use Rattle.refusal.specs.ChoiceLaws.{pick_on, pick_off}
use Rattle.wire.specs.FieldLaws.{and_left, and_right}
use Rattle.text.specs.Names.{Name, commands, questions, others, word_in, word_of, is_command}

-- in the arm of a tag
pub in_arm : (ns : List Name) (k : ℕ) {t : ℕ} → t ≡ k → word_in ns k ≡ word_in ns t
in_arm ns k e = ap (λ (t : ℕ). word_in ns t) (sym e)

-- what the last arm of a `match` with an arm for each name knows of the tag
abbrev pub Other : Type 0 → List Name → ℕ → Type 0
Other A [] t = A
Other A (n ∷ ns) t = Other (A × (t ≡ n.tag → ⊥)) ns t

other_name : (A : Type 0) (ns : List Name) (t : ℕ) → Other A ns t → (word_in ns t ≡ []) × A
unfolding word_in
other_name A [] t x = (refl, x)
other_name A (n ∷ ns) t x =
    let y = other_name (A × (t ≡ n.tag → ⊥)) ns t x in
    (rw (pick_off n.word (word_in ns t) (ne_eqb t n.tag y.1.1)) y.0, y.1.0)

pub no_word : (ns : List Name) (t : ℕ) → Other Unit ns t → word_in ns t ≡ []
no_word ns t x = (other_name Unit ns t x).0

-- what holds of the tag of each name in a list holds of every tag that the list has a name for
abbrev pub Each : (ℕ → Type 0) → List Name → Type 0
Each P [] = Unit
Each P (n ∷ ns) = P n.tag × Each P ns

infixr 5 ◌▸◌
abbrev pub ◌▸◌ : {A B : Type 0} → A → B → A × B
a ▸ b = (a, b)

pub each : (P : ℕ → Type 0) (ns : List Name) (t : ℕ) → Each P ns → 0 < length (word_in ns t) → P t
unfolding word_in pick
each P [] t a h = absurd (omega arith)
each P (n ∷ ns) t a h = go (eqb t n.tag) refl (λ k. each P ns t a.1 k) h
  where
    go : (b : Bool) → eqb t n.tag ≡ b → (0 < length (word_in ns t) → P t) → 0 < length (pick b n.word (word_in ns t)) → P t
    go true e i k = rw (eqb-true t n.tag e) a.0
    go false e i k = i k

-- and so does what a test of each computes
abbrev pub all_pass : (ℕ → Bool) → List Name → Bool
all_pass f [] = true
all_pass f (n ∷ ns) = f n.tag && all_pass f ns

passes : (f : ℕ → Bool) (ns : List Name) → all_pass f ns ≡ true → Each (λ (t : ℕ). f t ≡ true) ns
passes f [] e = tt
passes f (n ∷ ns) e = (and_left (f n.tag) (all_pass f ns) e, passes f ns (and_right (f n.tag) (all_pass f ns) e))

pub computed : (f : ℕ → Bool) (ns : List Name) (t : ℕ) → all_pass f ns ≡ true → 0 < length (word_in ns t) → f t ≡ true
computed f ns t e h = each (λ (t : ℕ). f t ≡ true) ns t (passes f ns e) h

-- which list names a tag
pub command_word : (t : ℕ) → is_command t ≡ true → word_of t ≡ word_in commands t
unfolding word_of
command_word t e = pick_on _ _ e

pub other_word : (t : ℕ) → is_command t ≡ false → word_of t ≡ word_in others t
unfolding word_of
other_word t e = pick_off _ _ e

pub is_command_lem : (t : ℕ) → 0 < length (word_in commands t) → is_command t ≡ true
is_command_lem t h = computed (λ (k : ℕ). is_command k) commands t refl h

pub is_question : (t : ℕ) → 0 < length (word_in questions t) → is_command t ≡ false
is_question t h = not-true (is_command t) (computed (λ (k : ℕ). not (is_command k)) questions t refl h)

pub question_word : (t : ℕ) → 0 < length (word_in questions t) → word_of t ≡ word_in questions t
unfolding word_in
question_word t h = other_word t (is_question t h) ∙ pick_off _ _ (not-true (eqb t 0x10) (computed (λ (k : ℕ). not (eqb k 0x10)) questions t refl h))

-- 0 is no tag of a name
pub is_tag : (ns : List Name) (t : ℕ) → all_pass (ltb 0) ns ≡ true → 0 < length (word_in ns t) → 0 < t
is_tag ns t e h = ltb-true 0 t (computed (ltb 0) ns t e h)
