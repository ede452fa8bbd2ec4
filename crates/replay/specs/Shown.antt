-- The two ends of a listing, and that any two results that a contract allows are one. Assumes nothing.
use Rattle.std.specs.Prelude.{◌≡◌, refl, true, false, List, ℕ, ◌≤◌, eqb, leb, length}
use Rattle.std.proofs.Common.{sym, ap, ◌∙◌, le-leb, ltb-true, ltb-false}
use Rattle.std.proofs.lemmas.Bool.{lt-leb}
use Rattle.refusal.specs.Choice.{pick}
use Rattle.refusal.specs.ChoiceLaws.{on, off}
use Rattle.refusal.specs.Refusal.{number, buffer_short}
use Rattle.sheet.specs.declared.Pen.{Pen}
use Rattle.sheet.specs.Sheet.{Wrote, pen_at}
use Rattle.sheet.specs.Laid.{dry, wet}
use Rattle.replay.specs.declared.Listed.{Listed}
use Rattle.replay.specs.declared.Listed.TheVariants.{Done, Short, Unsound}
use Rattle.replay.specs.Text.{listing_says}
use Rattle.sheet.specs.Shown.{listed_in, shown_in}

pub no_space : {t l m : List ℕ} {q : Pen} → Wrote false t l (pen_at 0 false) m q → q.short ≡ true → (listing_says Short ≡ listed_in t l) × (m ≡ shown_in t l)
unfolding listed_in shown_in
no_space {t} {l} w h =
    let e : leb (length t) (length l) ≡ false = lt-leb (length t) (length l) (ltb-true (length l) (length t) (sym (dry w).1 ∙ h)) in
    (off _ e refl, off _ e (dry w).0)

-- the text fits, and it was written at once
pub in_room : {t l n : List ℕ} {r : Pen} → length t ≤ length l → Wrote true t l (pen_at 0 false) n r → (listing_says (Done r.at) ≡ listed_in t l) × (n ≡ shown_in t l)
unfolding listed_in shown_in
in_room {t} {l} {n} {r} f y =
    let e : leb (length t) (length l) ≡ true = le-leb (length t) (length l) f in
    (on _ e (ap (λ (k : ℕ). (0, k)) (wet f y).1), on _ e (wet f y).0)

-- or it was measured before
pub in_space : {t l m n : List ℕ} {q r : Pen} → Wrote false t l (pen_at 0 false) m q → q.short ≡ false → Wrote true t m (pen_at 0 false) n r
    → (listing_says (Done r.at) ≡ listed_in t l) × (n ≡ shown_in t l)
in_space {t} {l} {m} {n} {q} {r} w h x = in_room (ltb-false (length l) (length t) (sym (dry w).1 ∙ h)) (rw (dry w).0 at x)

-- the number and the count say which answer it is
read_listed : ℕ × ℕ → Listed
read_listed w = pick (eqb w.0 0) (Done w.1) (pick (eqb w.0 (number buffer_short)) Short Unsound)

read_back : (x : Listed) → read_listed (listing_says x) ≡ x
unfolding read_listed pick
read_back (Done n) = refl
read_back Short = refl
read_back Unsound = refl

pub same_listed : (x y : Listed) → listing_says x ≡ listing_says y → x ≡ y
same_listed x y e = sym (read_back x) ∙ ap read_listed e ∙ read_back y

pub one_listing : {w : ℕ × ℕ} {l m n : List ℕ} {x y : Listed} → (listing_says x ≡ w) × (m ≡ l) → (listing_says y ≡ w) × (n ≡ l) → (x ≡ y) × (m ≡ n)
one_listing {x = x} {y = y} p q = (same_listed x y (p.0 ∙ sym q.0), p.1 ∙ sym q.1)
