-- Each row of the table makes a command with the row's tag and the numbers that it was made of. Assumes nothing.
use Rattle.std.specs.Prelude.{◌≡◌, refl, Bool, true, false, List, [], ◌∷◌, ℕ, zero, suc, ◌^◌, ◌<◌, length, get_or, eqb}
use Rattle.std.proofs.Common.{sym, ap, ◌∙◌, arith, eqb-true}
use Rattle.refusal.specs.Choice.{pick}
use Rattle.edition.specs.Edition.{keeps_terms}
use Rattle.money.specs.Range.{bits_of, of_bits}
use Rattle.money.specs.Facts.{bits_of_bits}
use Rattle.command.specs.declared.Command.{Command}
use Rattle.journal.specs.Answers.{found, malformed}
use Rattle.journal.specs.Table.{Row, rows_in, rows, named, fields_in, fields_of, made_in, made, parts_in, parts_of}
use Rattle.journal.specs.Format.{zeros}
use Rattle.journal.specs.Held.{by_tag}
use Rattle.journal.specs.declared.reading.Values.{Values}

-- the first n numbers
abbrev pub tabulate : ℕ → (ℕ → ℕ) → List ℕ
tabulate zero v = []
tabulate (suc n) v = v 0 ∷ tabulate n (λ (k : ℕ). v (suc k))

pub tabulated : (l : List ℕ) → tabulate (length l) (λ (k : ℕ). get_or l k 0) ≡ l
tabulated [] = refl
tabulated (x ∷ l) = ap (λ (r : List ℕ). x ∷ r) (tabulated l)

-- the values that fields of these tags hold
abbrev values_at : List ℕ → (ℕ → ℕ) → Values
values_at fs v = named (by_tag zeros fs (tabulate (length fs) v))

abbrev Faithful : Bool → Row → Type 0
Faithful kinds r = (v : ℕ → ℕ) → ((k : ℕ) → v k < 2 ^ 64) → parts_in kinds (r.make (values_at r.fields v)) ≡ (r.tag, tabulate (length r.fields) v)

-- each row, whatever the edition has
infixr 5 ◌▸◌
data Each : (Bool → List Row) → Type 0 where
  none : Each (λ kinds. [])
  ◌▸◌ : {r : Bool → Row} {rs : Bool → List Row} → ((kinds : Bool) → Faithful kinds (r kinds)) → Each rs → Each (λ kinds. r kinds ∷ rs kinds)

-- an amount among the numbers comes back from its bits
amount : (t : ℕ) (g : ℕ → List ℕ) (x : ℕ) → x < 2 ^ 64 → ◌≡◌ {A = ℕ × List ℕ} (t, g (bits_of (of_bits x))) (t, g x)
amount t g x h = ap (λ (n : ℕ). (t, g n)) (bits_of_bits x h)

-- a record with a field that some editions have, and without it
with_or_without : (P : Bool → Type 0) → P true → P false → (b : Bool) → P b
with_or_without P x y true = x
with_or_without P x y false = y

all_rows : Each rows_in
unfolding parts_in named by_tag pick
all_rows =
    (λ b v h. refl)
    ▸ (λ b v h. amount 0x22 (λ x. v 0 ∷ v 1 ∷ x ∷ []) (v 2) (h 2))
    ▸ (λ b v h. amount 0x23 (λ x. v 0 ∷ v 1 ∷ x ∷ []) (v 2) (h 2))
    ▸ (λ b v h. amount 0x24 (λ x. v 0 ∷ v 1 ∷ x ∷ []) (v 2) (h 2))
    ▸ (λ b v h. amount 0x25 (λ x. v 0 ∷ v 1 ∷ v 2 ∷ x ∷ []) (v 3) (h 3))
    ▸ (λ b v h. refl)
    ▸ (λ b v h. amount 0x31 (λ x. v 0 ∷ v 1 ∷ v 2 ∷ v 3 ∷ x ∷ v 5 ∷ v 6 ∷ v 7 ∷ []) (v 4) (h 4))
    ▸ (λ b v h. refl)
    ▸ (λ b v h. refl)
    ▸ (λ b v h. refl)
    ▸ (λ b v h. amount 0x35 (λ x. v 0 ∷ v 1 ∷ v 2 ∷ x ∷ v 4 ∷ v 5 ∷ v 6 ∷ []) (v 3) (h 3))
    ▸ (λ b v h. amount 0x36 (λ x. v 0 ∷ v 1 ∷ v 2 ∷ x ∷ v 4 ∷ v 5 ∷ v 6 ∷ []) (v 3) (h 3))
    ▸ (λ b v h. refl)
    ▸ with_or_without _ (λ v h. refl) (λ v h. refl)
    ▸ (λ b v h. refl)
    ▸ (λ b v h. amount 0x42 (λ x. v 0 ∷ v 1 ∷ v 2 ∷ x ∷ []) (v 3) (h 3))
    ▸ (λ b v h. refl)
    ▸ (λ b v h. amount 0x44 (λ x. v 0 ∷ v 1 ∷ x ∷ bits_of (of_bits (v 3)) ∷ []) (v 2) (h 2) ∙ amount 0x44 (λ x. v 0 ∷ v 1 ∷ v 2 ∷ x ∷ []) (v 3) (h 3))
    ▸ (λ b v h. refl)
    ▸ (λ b v h. refl)
    ▸ (λ b v h. refl)
    ▸ (λ b v h. refl)
    ▸ (λ b v h. refl)
    ▸ (λ b v h. refl)
    ▸ none

-- what a row makes of numbers
pub record Made (kinds : Bool) (t m n : ℕ) (fs : List ℕ) (v : ℕ → ℕ) (c : Command) : Type 0 where
  pub next : m ≡ n
  pub parts : parts_in kinds c ≡ (t, tabulate (length fs) v)

made_in_lem : (kinds : Bool) {rs : Bool → List Row} (t : ℕ) (v : ℕ → ℕ) (at m n : ℕ) (c : Command) → Each rs → ((k : ℕ) → v k < 2 ^ 64) → made_in (rs kinds) t (values_at (fields_in (rs kinds) t) v) at m ≡ found c n
    → Made kinds t m n (fields_in (rs kinds) t) v c
unfolding made_in fields_in pick
made_in_lem kinds t v at m n c none h q = absurd (no q)
  where
    no : malformed at ≡ found c n → ⊥
    no q = let z : ◌≡◌ {A = ℕ} 0 1 = cc in omega arith
made_in_lem kinds t v at m n c (◌▸◌ {r} {rs} a l) h q = go (λ x. made_in_lem kinds t v at m n c l h x) (eqb t (r kinds).tag) refl q
  where
    go : (made_in (rs kinds) t (values_at (fields_in (rs kinds) t) v) at m ≡ found c n → Made kinds t m n (fields_in (rs kinds) t) v c) → (b : Bool) → eqb t (r kinds).tag ≡ b
        → pick b (found ((r kinds).make (values_at (pick b (r kinds).fields (fields_in (rs kinds) t)) v)) m) (made_in (rs kinds) t (values_at (pick b (r kinds).fields (fields_in (rs kinds) t)) v) at m) ≡ found c n
        → Made kinds t m n (pick b (r kinds).fields (fields_in (rs kinds) t)) v c
    go w true i q =
        let d : (r kinds).make (values_at (r kinds).fields v) ≡ c = cc in
        let j : m ≡ n = cc in
        record { next = j; parts = ap (parts_in kinds) (sym d) ∙ a kinds v h ∙ ap (λ (k : ℕ). (k, tabulate (length (r kinds).fields) v)) (sym (eqb-true t (r kinds).tag i)) }
    go w false i q = w q

-- a record of tag t whose fields hold the numbers vs
pub made_of : (e t at m n : ℕ) (vs : List ℕ) (c : Command) → length vs ≡ length (fields_of e t) → ((k : ℕ) → get_or vs k 0 < 2 ^ 64) → made e t (named (by_tag zeros (fields_of e t) vs)) at m ≡ found c n → (m ≡ n) × (parts_of e c ≡ (t, vs))
unfolding made fields_of parts_of
made_of e t at m n vs c l h q =
    let k : tabulate (length (fields_in (rows e) t)) (λ (k : ℕ). get_or vs k 0) ≡ vs = ap (λ (n : ℕ). tabulate n (λ (k : ℕ). get_or vs k 0)) (sym l) ∙ tabulated vs in
    let r = made_in_lem (keeps_terms e) t (λ (k : ℕ). get_or vs k 0) at m n c all_rows h (rw k q) in
    (r.next, r.parts ∙ ap (λ (x : List ℕ). (t, x)) k)
