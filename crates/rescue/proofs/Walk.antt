-- How the walk over the outer fields goes, and what a pass over them writes. Assumes nothing.
use Rattle.std.specs.Prelude.{◌≡◌, Bool, List, [], ◌∷◌, ◌++◌, ℕ, zero, suc, ◌+◌, ◌-◌, ◌≤◌, ◌<◌, length, take, drop, Some, None}
use Rattle.std.proofs.Math.Path.{refl, sym}
use Rattle.std.proofs.Common.{ap, ◌∙◌, append_assoc, add-zero, arith, length-append, take-append-drop, length-take-le, drop-drop}
use Rattle.std.proofs.Math.Bool.{true, false}
use Rattle.std.proofs.Math.ListN.{length-drop}
use borrow.Author.Tests.{le-leb, lt-leb, leb-true}
use Rattle.wire.specs.Field.{number_at}
use Rattle.refusal.specs.Choice.{pick}
use Rattle.refusal.specs.ChoiceLaws.{pick_on, pick_off, either}
use Rattle.command.specs.declared.Command.{Command}
use Rattle.journal.specs.Answers.{Reading, reading}
use Rattle.journal.specs.declared.Decoded.{Decoded}
use Rattle.journal.specs.declared.Decoded.TheVariants.{Command as Read, Malformed, End}
use Rattle.journal.specs.Format.{read_at}
use Rattle.rescue.specs.Rescue.{outer, fits, is_record, stands, Piece, piece_at, pieces_by, pieces_from, bytes_in, kept_in, lost_in}

-- ---- one step

module _ (s : List ℕ) (at : ℕ) where
  pub fits_not : length s < at + 3 → fits (drop at s) ≡ false
  unfolding fits outer
  fits_not h = rw length-drop (lt-leb _ (length s - at) (omega arith))

  pub fits_room : fits (drop at s) ≡ true → (at + outer (drop at s) ≤ length s) × (3 ≤ outer (drop at s))
  unfolding fits outer
  fits_room h = let l = leb-true (outer (drop at s)) (length (drop at s)) h in (omega (arith, l, length-drop at s), omega arith)

module _ (s : List ℕ) (at : ℕ) where
  pub outer_at : 3 + number_at 2 (drop (at + 1) s) ≡ outer (drop at s)
  unfolding outer
  outer_at = rw (drop-drop 1 at s)

  -- what a step of the code answers: a field that does not fit, and one that does
  pub no_step : {n : ℕ} → n ≡ outer (drop at s) → length s - at < n → None ≡ pick (fits (drop at s)) (Some (outer (drop at s))) None
  unfolding fits
  no_step e h = sym (pick_off _ _ (rw length-drop (lt-leb (outer (drop at s)) (length s - at) (omega arith))))

  pub a_step : {n : ℕ} → n ≡ outer (drop at s) → n ≤ length s - at → Some n ≡ pick (fits (drop at s)) (Some (outer (drop at s))) None
  unfolding fits
  a_step e h = ap (λ (n : ℕ). Some n) e ∙ sym (pick_on _ _ (rw length-drop (le-leb (outer (drop at s)) (length s - at) (omega arith))))

pub stands_is : (e : ℕ) (s : List ℕ) (at : ℕ) {r : Reading} → read_at e s at ≡ r → is_record r ≡ stands e s at
unfolding stands
stands_is e s at q = ap is_record (sym q)

pub stands_not : (e : ℕ) (s : List ℕ) (at : ℕ) {d : Decoded} → read_at e s at ≡ reading d → ((c : Command) (n : ℕ) → d ≡ Read c n → ⊥) → false ≡ stands e s at
unfolding stands
stands_not e s at {d = Read c n} q h = absurd (h c n refl)
stands_not e s at {d = Malformed n} q h = sym (ap is_record q)
stands_not e s at {d = End} q h = sym (ap is_record q)

-- a step of the code: it goes on by a field that fits, and stops where there is none
pub record Steps (b : List ℕ) (n : ℕ) : Type 0 where
  pub fit : fits b ≡ true
  pub size : n ≡ outer b

module _ (b : List ℕ) where
  pub stepped : {n : ℕ} → Some n ≡ pick (fits b) (Some (outer b)) None → Steps b n
  unfolding pick
  stepped {n} e = go (fits b) refl e
    where
      go : (t : Bool) → fits b ≡ t → Some n ≡ pick t (Some (outer b)) None → Steps b n
      go true q r = record { fit = q; size = cc }
      go false q r = absurd (cc)

  pub stopped : None ≡ pick (fits b) (Some (outer b)) None → fits b ≡ false
  unfolding pick
  stopped e = go (fits b) refl e
    where
      go : (t : Bool) → fits b ≡ t → None ≡ pick t (Some (outer b)) None → fits b ≡ false
      go true q r = absurd (cc)
      go false q r = q

pick_same : {A : Type 0} (t : Bool) (x y z : A) → (t ≡ true → x ≡ y) → pick t x z ≡ pick t y z
unfolding pick
pick_same true x y z h = h refl
pick_same false x y z h = refl

-- any bound that reaches the end is enough
pub enough : (i j e : ℕ) (s : List ℕ) (at : ℕ) → length s ≤ i + at → length s ≤ j + at → pieces_by i e s at ≡ pieces_by j e s at
unfolding pieces_by
enough zero zero e s at h k = refl
enough zero (suc j) e s at h k = sym (pick_off _ _ (fits_not s at (omega arith)))
enough (suc i) zero e s at h k = pick_off _ _ (fits_not s at (omega arith))
enough (suc i) (suc j) e s at h k =
    pick_same (fits (drop at s)) _ _ [] (λ q. let r = fits_room s at q in ap (λ (ps : List Piece). piece_at e s at ∷ ps) (enough i j e s (at + outer (drop at s)) (omega arith) (omega arith)))

module _ (e : ℕ) (s : List ℕ) (at : ℕ) where
  from_here : pieces_from e s at ≡ pick (fits (drop at s)) (piece_at e s at ∷ pieces_from e s (at + outer (drop at s))) []
  unfolding pieces_from pieces_by
  from_here = enough (length s) (suc (length s)) e s at (omega arith) (omega arith)

  pub from_piece : fits (drop at s) ≡ true → pieces_from e s at ≡ piece_at e s at ∷ pieces_from e s (at + outer (drop at s))
  from_piece q = from_here ∙ pick_on _ _ q

  pub from_stop : fits (drop at s) ≡ false → pieces_from e s at ≡ []
  from_stop q = from_here ∙ pick_off _ _ q

-- ---- the pieces and what follows them are the bytes from the place on

pub piece_long : (s : List ℕ) (at : ℕ) → fits (drop at s) ≡ true → length (take (outer (drop at s)) (drop at s)) ≡ outer (drop at s)
piece_long s at q = let r = fits_room s at q in length-take-le (outer (drop at s)) (drop at s) (omega (arith, length-drop at s))

whole_piece : (s : List ℕ) (at : ℕ) (w : List ℕ) → fits (drop at s) ≡ true → w ++ drop (at + outer (drop at s) + length w) s ≡ drop (at + outer (drop at s)) s
    → (take (outer (drop at s)) (drop at s) ++ w) ++ drop (at + length (take (outer (drop at s)) (drop at s) ++ w)) s ≡ drop at s
whole_piece s at w q i =
    let o = outer (drop at s) in
    let l : at + length (take o (drop at s) ++ w) ≡ at + o + length w = omega (arith, length-append (take o (drop at s)) w, piece_long s at q) in
    rw (l, append_assoc (take o (drop at s)) w (drop (at + o + length w) s), i, ← drop-drop o at s) (take-append-drop o (drop at s))

pub accounted : (n e : ℕ) (s : List ℕ) (at : ℕ) → bytes_in (pieces_by n e s at) ++ drop (at + length (bytes_in (pieces_by n e s at))) s ≡ drop at s
unfolding pieces_by bytes_in
accounted zero e s at = rw (add-zero at)
accounted (suc n) e s at =
    either (λ ps. bytes_in ps ++ drop (at + length (bytes_in ps)) s ≡ drop at s) (fits (drop at s)) (piece_at e s at ∷ pieces_by n e s (at + outer (drop at s))) []
    (λ q. whole_piece s at (bytes_in (pieces_by n e s (at + outer (drop at s)))) q (accounted n e s (at + outer (drop at s))))
    (λ q. rw (add-zero at))

-- kept and dropped bytes together are as many
part_one : (t : Bool) (b x y z : List ℕ) → length x + length y ≡ length z → length (pick t b [] ++ x) + length (pick t [] b ++ y) ≡ length (b ++ z)
unfolding pick
part_one true b x y z h = omega (arith, length-append b x, length-append b z)
part_one false b x y z h = omega (arith, length-append b y, length-append b z)

pub parted : (ps : List Piece) → length (kept_in ps) + length (lost_in ps) ≡ length (bytes_in ps)
unfolding kept_in lost_in bytes_in
parted [] = refl
parted (p ∷ ps) = part_one p.good p.bytes (kept_in ps) (lost_in ps) (bytes_in ps) (parted ps)

pub all_within : (e : ℕ) (s : List ℕ) (at : ℕ) → at ≤ length s → at + length (bytes_in (pieces_from e s at)) ≤ length s
unfolding pieces_from
all_within e s at h =
    let w = bytes_in (pieces_by (length s) e s at) in
    omega (arith, ap length (accounted (length s) e s at), length-append w (drop (at + length w) s), length-drop at s, length-drop (at + length w) s)
