-- The walk over a text's lines, in any range of tags. Assumes nothing.
use Rattle.std.specs.Prelude.{◌≡◌, refl, Bool, true, false, ◌&&◌, List, ℕ, ◌+◌, ◌≤◌, ◌<◌, length, get_or, eqb, leb, ltb}
use Rattle.std.proofs.Common.{arith, length-drop}
use Rattle.std.proofs.Math.ListN.{drop}
use borrow.Author.Tests.{eqb-true, le-leb, lt-leb, leb-true, leb-false}
use Rattle.refusal.specs.Choice.{pick}
use Rattle.refusal.specs.ChoiceLaws.{either, pick_on, pick_off}
use Rattle.wire.specs.FieldLaws.{and_right}
use Rattle.journal.specs.Table.{sent}
use Rattle.text.specs.Names.{word_of}
use Rattle.text.specs.Fields.{fields_for}
use Rattle.text.specs.Walk.{Item, item, fault, end}
use Rattle.text.specs.WalkLaws.{Onward}
use Rattle.text.specs.Reading.{tag_in, Read, read_in, closed, line_by, line_in, line_at, line_for}
use Rattle.text.specs.ReadingLaws.{there}
use Rattle.text.specs.declared.reading.Line.{Line}

-- a line leads on, within the text
pick_goes : (b : Bool) (x : ℕ × List ℕ) (at m len : ℕ) → at < len → (b ≡ true → at + m < len) → Onward len at (pick b (item x (at + (m + 1))) fault)
unfolding pick Onward
pick_goes true x at m len h f = (omega arith, omega (arith, f refl))
pick_goes false x at m len h f = h

closed_within : (t : List ℕ) (k n : ℕ) (r : Read) (at : ℕ) → ltb 0 k && (r.ok && eqb (get_or (drop at t) (n + r.size) 0) 10) ≡ true → at + (n + r.size) < length t
closed_within t k n r at e = omega (arith, there (drop at t) (n + r.size) (eqb-true _ 10 (and_right r.ok _ (and_right (ltb 0 k) _ e))) (omega arith), length-drop at t)

closed_goes : (t : List ℕ) (k n : ℕ) (r : Read) (at : ℕ) → at < length t → Onward (length t) at (closed k n r (drop at t) at)
closed_goes t k n r at h =
    pick_goes (ltb 0 k && (r.ok && eqb (get_or (drop at t) (n + r.size) 0) 10)) (k, r.values) at (n + r.size) (length t) h (closed_within t k n r at)

pick_item : (b : Bool) (x y : ℕ × List ℕ) (n m : ℕ) → pick b (item x n) fault ≡ item y m → b ≡ true
unfolding pick
pick_item true x y n m q = refl
pick_item false x y n m q = let z : ◌≡◌ {A = ℕ} 0 1 = cc in absurd (omega arith)

module _ (e from past : ℕ) (t : List ℕ) (at : ℕ) where
  line_goes : at < length t → Onward (length t) at (line_in e from past (drop at t) at)
  unfolding line_in line_by
  line_goes h =
      let b = drop at t in
      let k = tag_in from past b in
      closed_goes t k (length (word_of k)) (read_in (fields_for e k) (drop (length (word_of k)) b)) at h

  pub line_there : {x : ℕ × List ℕ} {n : ℕ} → line_in e from past (drop at t) at ≡ item x n → at < length t
  unfolding line_in line_by
  line_there q =
      let b = drop at t in
      let k = tag_in from past b in
      omega (arith, closed_within t k (length (word_of k)) (read_in (fields_for e k) (drop (length (word_of k)) b)) at (pick_item _ _ _ _ _ q))

  pub onward : Onward (length t) at (line_at e from past t at)
  unfolding line_at Onward
  onward = either (Onward (length t) at) (leb (length t) at) end (line_in e from past (drop at t) at) (λ b. leb-true (length t) at b) (λ b. line_goes (leb-false (length t) at b))

  pub at-end : length t ≤ at → line_at e from past t at ≡ end
  unfolding line_at
  at-end h = pick_on _ _ (le-leb (length t) at h)

  pub at_line : at < length t → line_at e from past t at ≡ line_in e from past (drop at t) at
  unfolding line_at
  at_line h = pick_off _ _ (lt-leb (length t) at h)

-- what the code has of a line
pub record Had (d : Item) (r : Line) : Type 0 where
  pub parts : ℕ × List ℕ
  pub is : d ≡ item parts r.next
  pub sends : ◌≡◌ {A = ℕ × List ℕ} (r.tag, r.values) (sent parts)

had_by : (d : Item) → (line_for d).ok ≡ true → Had d (line_for d)
had_by (item x next) e = record { parts = x; is = refl; sends = refl }
had_by fault e = let z : ◌≡◌ {A = ℕ} 0 1 = cc in absurd (omega arith)
had_by end e = let z : ◌≡◌ {A = ℕ} 0 1 = cc in absurd (omega arith)

pub had : (d : Item) {r : Line} → r ≡ line_for d → r.ok ≡ true → Had d r
had d e o = rw e (had_by d (rw e at o))

had_not_by : (len at : ℕ) (d : Item) → Onward len at d → at < len → (line_for d).ok ≡ false → d ≡ fault
unfolding Onward
had_not_by len at (item x next) g h e = let z : ◌≡◌ {A = ℕ} 0 1 = cc in absurd (omega arith)
had_not_by len at fault g h e = refl
had_not_by len at end g h e = absurd (omega arith)

pub had_not : (len at : ℕ) (d : Item) {r : Line} → Onward len at d → at < len → r ≡ line_for d → r.ok ≡ false → d ≡ fault
had_not len at d g h e o = had_not_by len at d g h (rw e at o)
