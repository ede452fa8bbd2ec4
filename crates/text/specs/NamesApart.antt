-- The names of commands are told apart, and so are those of questions: what begins with a name is found under that name. Assumes nothing.
use Rattle.std.specs.Prelude.{◌≡◌, refl, Bool, true, false, not, ◌&&◌, ◌||◌, List, [], ◌∷◌, ◌++◌, ℕ, zero, suc, ◌+◌, ◌-◌, ◌<◌, length, get_or, eqb, ltb}
use Rattle.std.proofs.Common.{sym, ◌∙◌, arith, eq-eqb, ne_eqb, eqb-true, lt-ltb}
use Rattle.refusal.specs.Choice.{pick}
use Rattle.refusal.specs.ChoiceLaws.{pick_on, pick_off}
use Rattle.wire.specs.FieldLaws.{and_left, and_right}
use Rattle.text.specs.Names.{Name, commands, questions, word_in, word_of}
use Rattle.text.specs.NameLaws.{all_pass, computed, command_word, question_word, is_command_lem}
use Rattle.text.specs.Reading.{leads, is_named, tag_by, tag_in}

-- a space or a newline
abbrev pub breaks : ℕ → Bool
breaks b = eqb b 32 || eqb b 10

-- nothing that begins with v and then a break begins with w
unfoldable apart : List ℕ → List ℕ → Bool
apart [] v = false
apart (x ∷ w) [] = not (breaks x)
apart (x ∷ w) (y ∷ v) = not (eqb y x) || apart w v

-- nothing that begins with v and then a break has the tag k
abbrev is_over : ℕ → List ℕ → Bool
is_over k v = not (ltb 0 (length (word_of k))) || apart (word_of k) v

-- what begins with the name of q and then a break has q, the first of n tags from k on
unfoldable is_first : ℕ → ℕ → ℕ → Bool
is_first zero k q = false
is_first (suc n) k q = eqb k q || (is_over k (word_of q) && is_first n (k + 1) q)

other_byte : (x y : ℕ) → not (breaks x) ≡ true → breaks y ≡ true → y ≡ x → ⊥
other_byte x y e f d = let z : ◌≡◌ {A = ℕ} 0 1 = cc in omega arith

apart_leads : (w v z : List ℕ) → breaks (get_or z 0 0) ≡ true → apart w v ≡ true → leads w (v ++ z) ≡ false
unfolding apart leads
apart_leads [] v z b e = sym e
apart_leads (x ∷ w) [] [] b e = refl
apart_leads (x ∷ w) [] (y ∷ z) b e = rw (ne_eqb y x (other_byte x y e b))
apart_leads (x ∷ w) (y ∷ v) z b e = go (eqb y x) (apart_leads w v z b) e
  where
    go : (t : Bool) → (apart w v ≡ true → leads w (v ++ z) ≡ false) → not t || apart w v ≡ true → t && leads w (v ++ z) ≡ false
    go true i d = i d
    go false i d = refl

over : (k : ℕ) (v z : List ℕ) → breaks (get_or z 0 0) ≡ true → is_over k v ≡ true → is_named k (v ++ z) ≡ false
unfolding is_named
over k v z b e = go (ltb 0 (length (word_of k))) e
  where
    go : (t : Bool) → not t || apart (word_of k) v ≡ true → t && leads (word_of k) (v ++ z) ≡ false
    go true d = apart_leads (word_of k) v z b d
    go false d = refl

leads_self : (w z : List ℕ) → leads w (w ++ z) ≡ true
unfolding leads
leads_self [] z = refl
leads_self (x ∷ w) z = rw (eq-eqb x x refl) (leads_self w z)

first_tag : (n k q : ℕ) (z : List ℕ) → breaks (get_or z 0 0) ≡ true → 0 < length (word_of q) → is_first n k q ≡ true → tag_by n k (word_of q ++ z) ≡ q
unfolding is_first tag_by is_named
first_tag zero k q z b h e = let y : ◌≡◌ {A = ℕ} 0 1 = cc in absurd (omega arith)
first_tag (suc n) k q z b h e = go (eqb k q) refl (first_tag n (k + 1) q z b h) e
  where
    go : (t : Bool) → eqb k q ≡ t → (is_first n (k + 1) q ≡ true → tag_by n (k + 1) (word_of q ++ z) ≡ q) → t || (is_over k (word_of q) && is_first n (k + 1) q) ≡ true
        → pick (is_named k (word_of q ++ z)) k (tag_by n (k + 1) (word_of q ++ z)) ≡ q
    go true d i f =
        let s : k ≡ q = eqb-true k q d in
        let m : is_named q (word_of q ++ z) ≡ true = rw (lt-ltb 0 (length (word_of q)) h) (leads_self (word_of q) z) in
        pick_on _ _ (rw s m) ∙ s
    go false d i f = pick_off _ _ (over k (word_of q) z b (and_left (is_over k (word_of q)) (is_first n (k + 1) q) f)) ∙ i (and_right (is_over k (word_of q)) (is_first n (k + 1) q) f)

-- a text that begins with the name of q and then a space or a newline is found to be of the tag q
abbrev pub Found : ℕ → ℕ → ℕ → Type 0
Found from past q = (z : List ℕ) → breaks (get_or z 0 0) ≡ true → tag_in from past (word_of q ++ z) ≡ q

found : (from past : ℕ) (ns : List Name) (q : ℕ) → all_pass (is_first (past - from) from) ns ≡ true → word_of q ≡ word_in ns q → 0 < length (word_in ns q) → Found from past q
unfolding tag_in
found from past ns q e w h z b = first_tag (past - from) from q z b (rw w h) (computed (is_first (past - from) from) ns q e h)

pub command_found : (q : ℕ) → 0 < length (word_in commands q) → Found 0x21 0x57 q
unfolding is_first apart word_of word_in pick
command_found q h = found 0x21 0x57 commands q refl (command_word q (is_command_lem q h)) h

-- the edition's name is told apart from each command's
pub edition_found : Found 0x10 0x11 0x10
unfolding is_first tag_in word_of word_in pick
edition_found z b = first_tag 1 0x10 0x10 z b (omega arith) refl

pub edition_not : (q : ℕ) (z : List ℕ) → 0 < length (word_in commands q) → breaks (get_or z 0 0) ≡ true → tag_in 0x10 0x11 (word_of q ++ z) ≡ 0
unfolding apart tag_in tag_by word_of word_in pick
edition_not q z h b = pick_off _ _ (over 0x10 (word_of q) z b (computed (λ (k : ℕ). is_over 0x10 (word_of k)) commands q refl h))

pub question_found : (q : ℕ) → 0 < length (word_in questions q) → Found 0x61 0x80 q
unfolding is_first apart word_of word_in pick
question_found q h = found 0x61 0x80 questions q refl (question_word q h) h
