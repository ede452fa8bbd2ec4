-- What the line of a tag reads as, by its name, its numbers and its end. Assumes nothing.
use Rattle.std.specs.Prelude.{◌≡◌, Bool, true, ◌&&◌, List, ℕ, ◌+◌, length, get_or, drop}
use Rattle.std.proofs.Math.Path.{sym}
use Rattle.std.proofs.Common.{ap, ◌∙◌, arith}
use Rattle.std.proofs.Math.Bool.{false}
use Rattle.std.proofs.Math.Dec.{eqb, ltb}
use borrow.Author.Tests.{eq-eqb, ne_eqb, lt-ltb, le-ltb}
use Rattle.refusal.specs.ChoiceLaws.{pick_on, pick_off}
use Rattle.journal.specs.FieldLaws.{and_off}
use Rattle.text.specs.Names.{word_of}
use Rattle.text.specs.Fields.{fields_for}
use Rattle.text.specs.Walk.{item, fault}
use Rattle.text.specs.Reading.{tag_in, Read, read_in, line_by, line_in}

module _ (e k : ℕ) (t : List ℕ) (at : ℕ) where
  abbrev pub numbers_there : Read
  numbers_there = read_in (fields_for e k) (drop (length (word_of k)) t)

  pub nameless : k ≡ 0 → fault ≡ line_by e k t at
  unfolding line_by
  nameless z = sym (pick_off _ _ (rw (le-ltb 0 k (omega arith))))

  pub numberless : numbers_there.ok ≡ false → fault ≡ line_by e k t at
  unfolding line_by
  numberless z = sym (pick_off _ _ (rw z (and_off (ltb 0 k))))

  pub endless : (get_or t (length (word_of k) + numbers_there.size) 0 ≡ 10 → ⊥) → fault ≡ line_by e k t at
  unfolding line_by
  endless z =
      let b : numbers_there.ok && eqb (get_or t (length (word_of k) + numbers_there.size) 0) 10 ≡ false = rw (ne_eqb (get_or t (length (word_of k) + numbers_there.size) 0) 10 z) (and_off numbers_there.ok) in
      sym (pick_off _ _ (ap (λ (x : Bool). ltb 0 k && x) b ∙ and_off (ltb 0 k)))

  pub lined : (k ≡ 0 → ⊥) → numbers_there.ok ≡ true → get_or t (length (word_of k) + numbers_there.size) 0 ≡ 10 → item (k, numbers_there.values) (at + (length (word_of k) + numbers_there.size + 1)) ≡ line_by e k t at
  unfolding line_by
  lined n o z = sym (pick_on _ _ (rw (lt-ltb 0 k (omega (arith, n)), o, eq-eqb (get_or t (length (word_of k) + numbers_there.size) 0) 10 z)))

-- the line of the tag that is found
pub by_tag_lem : (e from past : ℕ) (t : List ℕ) (at : ℕ) {k : ℕ} → k ≡ tag_in from past t → line_by e k t at ≡ line_in e from past t at
unfolding line_in
by_tag_lem e from past t at q = ap (λ (j : ℕ). line_by e j t at) q
