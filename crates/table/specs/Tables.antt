-- Tables of rows by id: what is found, adjusted, let in and summed. Over any row type.
use Rattle.std.specs.Prelude.{◌≡◌, Bool, true, false, cond, not, List, [], ◌∷◌, ℕ, ◌+◌, ◌<◌, eqb, leb, length}

abbrev pub Table : Type 0 → Type 0
Table A = List (ℕ × A)

pub data Found (A : Type 0) : Type 0 where
  absent : Found A
  here : A → Found A

-- ── Rows by id ────────────────────────────────────────────────────
module _ {A : Type 0} where
  unfoldable pub find : Table A → ℕ → Found A
  find [] j = absent
  find (e ∷ t) j = cond (eqb e.0 j) (here e.1) (find t j)

  unfoldable pub adjust : Table A → ℕ → (A → A) → Table A
  adjust [] i f = []
  adjust (e ∷ t) i f = cond (eqb e.0 i) ((e.0, f e.1) ∷ t) (e ∷ adjust t i f)

  unfoldable pub insert : Table A → ℕ → A → Table A
  insert [] i r = (i, r) ∷ []
  insert (e ∷ t) i r = cond (leb e.0 i) (e ∷ insert t i r) ((i, r) ∷ (e ∷ t))

  abbrev pub key : ℕ × A → ℕ
  key e = e.0

  abbrev pub held : ℕ × A → A
  held e = e.1

  unfoldable pub keys : Table A → List ℕ
  keys [] = []
  keys (e ∷ t) = e.0 ∷ keys t

  -- no room for one row more, where n rows fit
  abbrev pub full : ℕ → Table A → Bool
  full n t = leb n (length t)

-- an id that can be let in, where n rows fit
pub record Room {A : Type 0} (n : ℕ) (t : Table A) (i : ℕ) : Type 0 where
  pub small : length t < n
  pub new : find t i ≡ absent

-- ── What was found ────────────────────────────────────────────────
module _ {A : Type 0} where
  unfoldable pub has : Found A → Bool
  has absent = false
  has (here r) = true

  abbrev pub none : Found A → Bool
  none o = not (has o)

  -- the row, or d where there is none
  unfoldable pub row : A → Found A → A
  row d absent = d
  row d (here r) = r

  unfoldable pub fmap : {B : Type 0} → (A → B) → Found A → Found B
  fmap f absent = absent
  fmap f (here r) = here (f r)

-- ── Figures: w of one row, and of all ─────────────────────────────
module _ {A : Type 0} where
  unfoldable pub val : (A → ℕ) → Found A → ℕ
  val w absent = 0
  val w (here r) = w r

  unfoldable pub total : (A → ℕ) → Table A → ℕ
  total w [] = 0
  total w (e ∷ t) = w e.1 + total w t

-- x where i and a are one id, and 0 elsewhere
unfoldable pub hit : ℕ → ℕ → ℕ → ℕ
hit i a x = cond (eqb i a) x 0
