-- What the code that answers questions goes by. Assumes nothing.
use Rattle.std.specs.Prelude.{ℕ, zero, suc, ◌+◌, ◌-◌, ◌≤◌, ◌<◌, ◌≡◌, Bool, true, false, Option, Some, Result, Ok, Err, List, [], ◌∷◌, ◌++◌, length, get_or, take, drop, eqb}
use Rattle.std.proofs.Common.{arith, ap, ◌∙◌, lt-ltb, le-ltb, eq-eqb, ne_eqb}
use Rattle.std.proofs.Math.Path.{refl, sym}
use Rattle.refusal.specs.Choice.{pick}
use Rattle.refusal.specs.ChoiceLaws.{pick_on, pick_off, on, off}
use Rattle.refusal.specs.Refusal.{number, invalid_input}
use Rattle.table.specs.Tables.{Table}
use Rattle.offer.specs.declared.Offer.{Offer}
use Rattle.journal.specs.Table.{padded, sent}
use Rattle.sheet.specs.declared.Pen.{Pen}
use Rattle.sheet.specs.Sheet.{Wrote}
use Rattle.lists.specs.declared.Wanted.{Wanted}
use Rattle.lists.specs.Wanted.{known, wanted_of}
use Rattle.lists.specs.Listing.{listing}
use Rattle.lists.specs.Answers.{one_said}
use Rattle.lists.specs.Active.{active_of}
use Rattle.rules.specs.Model.{Model, offer_in}
use Rattle.query.specs.Reads.{offers_in}
use Rattle.query.specs.Questions.{reply_to}
use Rattle.text.specs.Walk.{Item, all_of}
use Rattle.text.specs.Telling.{Ended}
use Rattle.text.specs.Reading.{question_at}
use Rattle.text.specs.LineWalk.{Had}
use Rattle.text.specs.Journal.{fault_line}
use Rattle.text.specs.Answers.{whole, faulty}
use Rattle.text.specs.declared.reading.Line.{Line}
use Rattle.asking.specs.declared.AskError.{AskError}
use Rattle.asking.specs.declared.AskError.TheVariants.{NoQuestion, Short, Unsound}
use Rattle.asking.specs.Answers.{row_of, reply_line, reply_in, offer_lines}
use Rattle.asking.specs.Questions.{list_text, none_or, schedule_text, negotiation_text, answer_text, questions_in, answer_to, answers_of, told_says}

-- ── A list ──
module _ {x : Option Wanted} {w : Wanted} (t : Table Offer) (e : x ≡ Some w) where
  pub list_known : {n : ℕ} → known w ≡ true → n ≡ length (listing w t) → row_of (0 ∷ n ∷ []) ++ offer_lines w t ≡ list_text x t
  unfolding list_text
  list_known k c = on _ k (ap (λ (n : ℕ). row_of (0 ∷ n ∷ []) ++ offer_lines w t) c) ∙ sym (ap (λ (y : Option Wanted). list_text y t) e)

  pub list_unknown : known w ≡ false → row_of (number invalid_input ∷ []) ≡ list_text x t
  unfolding list_text
  list_unknown k = off _ k refl ∙ sym (ap (λ (y : Option Wanted). list_text y t) e)

-- ── A schedule's words ──
pub schedule_none_lem : (words : List ℕ) → get_or words 1 0 ≡ 0 → 48 ∷ 32 ∷ 110 ∷ 111 ∷ 110 ∷ 101 ∷ 10 ∷ [] ≡ schedule_text (reply_in words)
unfolding reply_in none_or
schedule_none_lem words e = sym (ap (λ (n : ℕ). none_or (take n (drop 2 words)) (reply_line (reply_in words))) e)

some : (n : ℕ) (l line : List ℕ) → (n ≡ 0 → ⊥) → 0 < length l → line ≡ none_or (take n l) line
unfolding none_or
some zero l line h k = absurd (h refl)
some (suc n) [] line h k = absurd (omega arith)
some (suc n) (v ∷ l) line h k = refl

pub schedule_some : (words : List ℕ) → (get_or words 1 0 ≡ 0 → ⊥) → 0 < length (drop 2 words) → reply_line (reply_in words) ≡ schedule_text (reply_in words)
unfolding reply_in
schedule_some words h k = some (get_or words 1 0) (drop 2 words) (reply_line (reply_in words)) h k

-- ── Which question it is ──
module _ (m : Model) {tag : ℕ} (a b : ℕ) where
  pub by_list : tag < 0x70 → list_text (wanted_of (tag - 0x60) a b) (offers_in m) ≡ answer_text m tag a b
  unfolding answer_text
  by_list h = on _ (lt-ltb tag 0x70 h) refl

  module _ (h : 0x70 ≤ tag) where
    pub by_schedule : tag ≡ 0x74 → schedule_text (reply_to 4 a b m) ≡ answer_text m tag a b
    unfolding answer_text
    by_schedule e = off _ (le-ltb tag 0x70 h) (on _ (eq-eqb tag 0x74 e) refl)

    module _ (s : tag ≡ 0x74 → ⊥) where
      pub by_active : tag ≡ 0x7E → row_of (0 ∷ active_of a (offers_in m) ∷ []) ≡ answer_text m tag a b
      unfolding answer_text
      by_active e = off _ (le-ltb tag 0x70 h) (off _ (ne_eqb tag 0x74 s) (on _ (eq-eqb tag 0x7E e) refl))

      module _ (t : tag ≡ 0x7E → ⊥) where
        pub by_negotiation : tag ≡ 0x7F → negotiation_text (offer_in m a).row.negotiation ≡ answer_text m tag a b
        unfolding answer_text
        by_negotiation e = off _ (le-ltb tag 0x70 h) (off _ (ne_eqb tag 0x74 s) (off _ (ne_eqb tag 0x7E t) (on _ (eq-eqb tag 0x7F e) refl)))

        pub by_lookup : (tag ≡ 0x7F → ⊥) → reply_line (reply_to (tag - 0x70) a b m) ≡ answer_text m tag a b
        unfolding answer_text
        by_lookup n = off _ (le-ltb tag 0x70 h) (off _ (ne_eqb tag 0x74 s) (off _ (ne_eqb tag 0x7E t) (off _ (ne_eqb tag 0x7F n) refl)))

-- ── The walk over the lines ──
-- a question's numbers, as the code has them
padded-0 : (l : List ℕ) → get_or (padded l) 0 0 ≡ get_or l 0 0
unfolding padded
padded-0 [] = refl
padded-0 (x ∷ l) = refl

padded-1 : (l : List ℕ) → get_or (padded l) 1 0 ≡ get_or l 1 0
unfolding padded
padded-1 [] = refl
padded-1 (x ∷ []) = refl
padded-1 (x ∷ y ∷ l) = refl

pub question_is : (m : Model) {d : Item} {r : Line} (h : Had d r) → answer_text m r.tag (get_or r.values 0 0) (get_or r.values 1 0) ≡ answer_to m h.parts
question_is m h =
    ap (λ (p : ℕ × List ℕ). answer_text m p.0 (get_or p.1 0 0) (get_or p.1 1 0)) h.sends
    ∙ ap (λ (n : ℕ). answer_text m h.parts.0 n (get_or (padded h.parts.1) 1 0)) (padded-0 h.parts.1)
    ∙ ap (λ (n : ℕ). answer_text m h.parts.0 (get_or h.parts.1 0 0) n) (padded-1 h.parts.1)

module _ {ink : Bool} (m : Model) (t : List ℕ) {l n : List ℕ} {p r : Pen} where
  pub asked_bad : {at k : ℕ} → Ended ink (length t) (question_at t) (answer_to m) (questions_in t) l p true at k n r
      → Wrote ink (all_of (answer_to m) (questions_in t).items) l p n r × ((true ≡ (questions_in t).bad) × (k + 1 ≡ fault_line 0 (questions_in t)))
  unfolding fault_line
  asked_bad {k = k} e = (e.all_written, (e.bad, on _ (sym e.bad) (omega (arith, e.count))))

  pub asked_end : {at k : ℕ} → Ended ink (length t) (question_at t) (answer_to m) (questions_in t) l p false at k n r
      → Wrote ink (all_of (answer_to m) (questions_in t).items) l p n r × ((false ≡ (questions_in t).bad) × (0 ≡ fault_line 0 (questions_in t)))
  unfolding fault_line
  asked_end e = (e.all_written, (e.bad, off _ (sym e.bad) refl))

-- the outcome
pub answers_faulty : (m : Model) (t : List ℕ) → (questions_in t).bad ≡ true → answers_of m t ≡ faulty (fault_line 0 (questions_in t))
unfolding answers_of
answers_faulty m t e = pick_on _ _ e

pub answers_whole : (m : Model) (t : List ℕ) → (questions_in t).bad ≡ false → answers_of m t ≡ whole (all_of (answer_to m) (questions_in t).items)
unfolding answers_of
answers_whole m t e = pick_off _ _ e

-- ── One answer ──
-- an answer is read back from what it says
unfoldable read_told : ℕ × ℕ → Result ℕ AskError
read_told p = pick (eqb p.0 0) (Ok p.1) (pick (eqb p.0 13) (Err (NoQuestion p.1)) (pick (eqb p.0 14) (Err Short) (Err Unsound)))

back_told : (x : Result ℕ AskError) → read_told (told_says x) ≡ x
unfolding read_told pick
back_told (Ok n) = refl
back_told (Err (NoQuestion line)) = refl
back_told (Err Short) = refl
back_told (Err Unsound) = refl

pub one_told : (x y : Result ℕ AskError) → told_says x ≡ told_says y → x ≡ y
one_told = one_said told_says read_told back_told
