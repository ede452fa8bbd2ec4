-- A row let into a shelf in place: its arrays are moved up from the count down to the row's place, and the row is put there. Over any row type and any size.
use Rattle.std.specs.Prelude.{◌≡◌, List, ℕ, suc, ◌+◌, ◌≤◌, ◌<◌, length, get_or, set, take}
use Rattle.std.proofs.Common.{sym, ap, ◌∙◌, arith}
use Rattle.std.specs.Prelude.{Err}
use Rattle.table.specs.Find.{find_in}
use Rattle.table.specs.Padded.{pad_rest, length-padded}
use Rattle.table.specs.Shelf.{table_of, Shelf, shelve}
use Rattle.table.proofs.ShelfLaws.{in_kept}
use Rattle.table.specs.Shift.{insert_at, Lifts, lifts, lifts_on}
use Rattle.table.specs.Tables.{key, held, insert}

-- the loop's place: i goes from the count c down to the row's place k
pub record Between (k c i : ℕ) : Type 0 where
  pub above : k ≤ i
  pub within : i ≤ c

pub record Raised {A : Type 0} (n c : ℕ) (ids₀ : List ℕ) (rows₀ : List A) (k : ℕ) (is : List ℕ) (rs : List A) (i : ℕ) : Type 0 where
  pub ids : Lifts n ids₀ is i
  pub rows : Lifts n rows₀ rs i
  pub place : Between k c i

module _ {A : Type 0} {n c : ℕ} {ids : List ℕ} {rows : List A} where
  module _ {d : A} (s : Shelf d n ids rows c) where
    pub ids_raised : Lifts n ids ids c
    ids_raised = lifts 0 ids c (ap length (sym s.ids_kept) ∙ length-padded 0 key n (table_of ids rows c)) (λ j h. ap (λ z. get_or z j 0) (sym s.ids_kept) ∙ pad_rest 0 key n (table_of ids rows c) j (omega (arith, s.counted)))

    pub raised : {k : ℕ} → k ≤ c → Raised n c ids rows k ids rows c
    raised h = record {
      ids = ids_raised;
      rows = lifts d rows c (ap length (sym s.rows-kept) ∙ length-padded d held n (table_of ids rows c)) (λ j h. ap (λ z. get_or z j d) (sym s.rows-kept) ∙ pad_rest d held n (table_of ids rows c) j (omega (arith, s.counted)));
      place = record { above = h; within = omega arith };
    }

  module _ {k i : ℕ} {is : List ℕ} {rs : List A} (m : Raised n c ids rows k is rs i) where
    pub raised_on : {j : ℕ} (x : ℕ) (r : A) → i ≡ suc j → k < i → Raised n c ids rows k (set is i (get_or is j x)) (set rs i (get_or rs j r)) j
    raised_on x r e h = record { ids = lifts_on x m.ids e; rows = lifts_on r m.rows e; place = record { above = omega arith; within = omega (arith, m.place.within) } }

    pub let_in_lem : {S : Type 0} (mk : List ℕ → List A → ℕ → S) {d : A} → Shelf d n ids rows c → (x : ℕ) (r : A) → c < n → find_in (take c ids) x ≡ Err k → i ≤ k
        → mk (set is i x) (set rs i r) (c + 1) ≡ shelve mk d n (insert (table_of ids rows c) x r)
    let_in_lem mk s x r h e l =
        ap (λ z. mk z (set rs i r) (c + 1)) (m.ids.put x)
        ∙ ap (λ z. mk (insert_at i x ids) z (c + 1)) (m.rows.put r)
        ∙ ap (λ z. mk (insert_at z x ids) (insert_at z r rows) (c + 1)) (omega (arith, m.place.above))
        ∙ in_kept mk s x k r h e
