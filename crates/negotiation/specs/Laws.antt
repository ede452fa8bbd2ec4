-- What the crates above need of rounds and negotiations: which are zero, and that every change keeps a negotiation sound and whole. For any number of places and any limit of rounds. Assumes nothing.
use Rattle.std.specs.Prelude.{ℕ, zero, suc, ◌+◌, ◌<◌, ◌≡◌, refl, Bool, true, false, not, ◌&&◌, ◌||◌, List, [], ◌∷◌, length, get_or, set, replicate, leb, eqb, ℤ, pos}
use Rattle.std.specs.Cmp.Lexicographic.{pointwise}
use Rattle.std.specs.Ordering.{int_eq}
use Rattle.std.proofs.Common.{arith, ap, sym, ◌∙◌, length-set, ext_get_or, eqb-true, leb-false, le-leb}
use Rattle.std.proofs.lemmas.Bool.Decides.{Decides-int_eq}
use Rattle.std.proofs.lemmas.List.{get_or-replicate}
use Rattle.refusal.specs.Choice.{pick}
use Rattle.refusal.specs.ChoiceLaws.{pick_off}
use Rattle.money.specs.Range.{is_zero}
use Rattle.money.specs.Facts.{both, zero_is}
use Rattle.terms.specs.Terms.{terms_ok}
use Rattle.terms.specs.declared.Terms.{Terms}
use Rattle.table.specs.All.{all-at}
use Rattle.table.specs.Test.{all_below, rows_test}
use Rattle.table.proofs.TestMore.{rows_more}
use Rattle.negotiation.specs.declared.Round.{Round}
use Rattle.negotiation.specs.declared.Negotiation.{Negotiation}
use Rattle.negotiation.specs.Rounds.{round_slots, no_round, no_negotiation, round_of, deadline_of, added_of, closed_as, accepted_of, round_sound, round_zero, negotiation_sound, negotiation_zero}
use Rattle.negotiation.specs.Whole.{Whole}

zeros : {a : ℤ} {d t p q : ℕ} → a ≡ pos 0 → d ≡ 0 → t ≡ 0 → p ≡ 0 → q ≡ 0
    → ◌≡◌ {A = Round} (record { amount = a; duration = d; time = t; rate = p; party = q }) no_round
zeros e f g h i = cc

-- a zero round is no round
pub round-zero : (r : Round) → round_zero r ≡ true → r ≡ no_round
unfolding round_zero
round-zero r e =
    let d = both _ _ e in
    let c = both _ _ d.0 in
    let b = both _ _ c.0 in
    let a = both _ _ b.0 in
    zeros (zero_is _ a.0) (eqb-true _ _ a.1) (eqb-true _ _ b.1) (eqb-true _ _ c.1) (eqb-true _ _ d.1)

nothing : {rs : List Round} {d n o : ℕ} → rs ≡ replicate round_slots no_round → d ≡ 0 → n ≡ 0 → o ≡ 0
    → ◌≡◌ {A = Negotiation} (record { rounds = rs; deadline = d; len = n; outcome = o }) no_negotiation
nothing {rs} {d} {n} {o} e f g h i = record { rounds = e i; deadline = f i; len = g i; outcome = h i }

-- a zero negotiation is none, and none is zero, sound and whole
pub negotiation_zero_lem : (n : Negotiation) → Whole round_slots n → negotiation_zero round_slots n ≡ true → n ≡ no_negotiation
unfolding negotiation_zero
negotiation_zero_lem n w e =
    let c = both _ _ e in
    let b = both _ _ c.0 in
    let a = both _ _ b.0 in
    nothing (ext_get_or no_round n.rounds (replicate round_slots no_round) w.long
    (λ i h. round-zero (get_or n.rounds i no_round) (all-at (λ j. round_zero (get_or n.rounds j no_round)) round_slots a.0 i (omega (arith, w.long)))
    ∙ sym (get_or-replicate round_slots i no_round no_round (omega (arith, w.long)))))
    (eqb-true _ _ a.1) (eqb-true _ _ b.1) (eqb-true _ _ c.1)

pub none_zero : negotiation_zero round_slots no_negotiation ≡ true
unfolding negotiation_zero round_zero
none_zero = refl

pub none_sound : (limit : ℕ) → negotiation_sound round_slots limit no_negotiation ≡ true
unfolding negotiation_sound round_zero
none_sound limit = rw (le-leb 0 limit (omega arith))

pub none_whole : Whole round_slots no_negotiation
none_whole = record { long = refl }

-- a round of valid terms, of either party
pub round_sound_lem : (now : ℕ) (t : Terms) (party : ℕ) → leb party 1 ≡ true → terms_ok t ≡ true → round_sound (round_of now t party) ≡ true
unfolding round_sound
round_sound_lem now t party h k = rw (k, h)

abbrev pub stored : ℕ → Bool
stored o = leb 2 o && leb o 4

-- what soundness says of a negotiation
record Sound (slots limit : ℕ) (n : Negotiation) : Type 0 where
  pub few : leb n.len limit ≡ true
  pub rows : rows_test round_sound round_zero no_round slots n.len n.rounds ≡ true
  pub outcome : eqb n.outcome 0 || stored n.outcome ≡ true

sound_parts : (slots limit : ℕ) (n : Negotiation) → negotiation_sound slots limit n ≡ true → Sound slots limit n
unfolding negotiation_sound
sound_parts slots limit n e =
    let b = both _ _ e in
    let a = both _ _ b.0 in
    record { few = a.0; rows = a.1; outcome = b.1 }

parts_sound : (slots limit : ℕ) (n : Negotiation) → Sound slots limit n → negotiation_sound slots limit n ≡ true
unfolding negotiation_sound
parts_sound slots limit n s = rw (s.few, s.rows, s.outcome)

-- ── One round more ────────────────────────────────────────────────
abbrev pub more : Negotiation → Round → ℕ → Negotiation
more n r window = record {
  rounds = set n.rounds n.len r;
  deadline = deadline_of n.len r.time window n.deadline;
  len = n.len + 1;
  outcome = n.outcome;
}

pub added_is : (slots : ℕ) (n : Negotiation) (r : Round) (window : ℕ) → leb slots n.len ≡ false → added_of slots n r window ≡ more n r window
unfolding added_of
added_is slots n r window room = pick_off n (more n r window) room

module _ (slots : ℕ) (n : Negotiation) (w : Whole slots n) (room : leb slots n.len ≡ false) (r : Round) (window : ℕ) where
  pub added_whole : Whole slots (added_of slots n r window)
  added_whole = rw (added_is slots n r window room) (record { long = length-set n.rounds n.len r ∙ w.long })

  pub added_sound : (limit : ℕ) → leb limit n.len ≡ false → round_sound r ≡ true → negotiation_sound slots limit n ≡ true → negotiation_sound slots limit (added_of slots n r window) ≡ true
  added_sound limit few h e =
      let s = sound_parts slots limit n e in
      let l = leb-false slots n.len room in
      let m = leb-false limit n.len few in
      rw (added_is slots n r window room) (parts_sound slots limit (more n r window) (record {
        few = le-leb (n.len + 1) limit (omega arith);
        rows = rows_more round_sound round_zero no_round slots n.len n.rounds r w.long l h s.rows;
        outcome = s.outcome;
      }))

-- ── An outcome stored ─────────────────────────────────────────────
pub closed_whole : (slots o : ℕ) (n : Negotiation) → Whole slots n → Whole slots (closed_as o n)
closed_whole slots o n w = record { long = w.long }

pub closed_sound : (slots limit o : ℕ) (n : Negotiation) → stored o ≡ true → negotiation_sound slots limit n ≡ true → negotiation_sound slots limit (closed_as o n) ≡ true
closed_sound slots limit o n h e = let s = sound_parts slots limit n e in parts_sound slots limit (closed_as o n) (record { few = s.few; rows = s.rows; outcome = either (eqb o 0) })
  where
    either : (b : Bool) → b || stored o ≡ true
    either true = refl
    either false = h

-- what holds of a negotiation, and of the same one with Accepted stored
pub accepted_has : (P : Negotiation → Type 0) (n : Negotiation) → P n → P (closed_as 3 n) → P (accepted_of n)
unfolding accepted_of pick
accepted_has P n p q = go (eqb n.len 0) (not (eqb n.outcome 0))
  where
    go : (s t : Bool) → P (pick s n (pick t n (closed_as 3 n)))
    go true t = p
    go false true = p
    go false false = q

pub accepted_whole : (slots : ℕ) (n : Negotiation) → Whole slots n → Whole slots (accepted_of n)
accepted_whole slots n w = accepted_has (Whole slots) n w (closed_whole slots 3 n w)

pub accepted_sound : (slots limit : ℕ) (n : Negotiation) → negotiation_sound slots limit n ≡ true → negotiation_sound slots limit (accepted_of n) ≡ true
accepted_sound slots limit n e = accepted_has (λ m. negotiation_sound slots limit m ≡ true) n e (closed_sound slots limit 3 n refl e)

-- a row that does not fit makes a negotiation unsound
pub misfit : (p : ℕ → Bool) {n i : ℕ} (a b : Bool) → i < n → p i ≡ false → false ≡ (a && all_below n p) && b
misfit p {n} {i} a b h e = go (all_below n p) refl a
  where
    go : (t : Bool) → all_below n p ≡ t → (a : Bool) → false ≡ (a && all_below n p) && b
    go false q true = rw q refl
    go false q false = refl
    go true q a = let z : true ≡ false = sym (all-at p n q i h) ∙ e in cc

-- ── The empty one, by `==` ────────────────────────────────────────
all_first : (p : ℕ → Bool) (n : ℕ) → all_below (suc n) p ≡ p 0 && all_below n (λ i. p (suc i))
all_first p zero = go (p 0)
  where
    go : (t : Bool) → t ≡ t && true
    go true = refl
    go false = refl
all_first p (suc n) = ap (λ t. t && p (suc n)) (all_first p n) ∙ go (p 0)
  where
    go : (t : Bool) → (t && all_below n (λ i. p (suc i))) && p (suc n) ≡ t && (all_below n (λ i. p (suc i)) && p (suc n))
    go true = refl
    go false = refl

-- a list is all d where each of its rows is
module _ {A : Type 0} (E : A → A → Bool) (z : A → Bool) (d : A) (is : (r : A) → E r d ≡ z r) where
  pub all_empty : (n : ℕ) (rs : List A) → length rs ≡ n → pointwise E rs (replicate n d) ≡ all_below n (λ i. z (get_or rs i d))
  all_empty zero [] e = refl
  all_empty zero (r ∷ rs) e = absurd (omega (arith, e))
  all_empty (suc n) [] e = absurd (omega (arith, e))
  all_empty (suc n) (r ∷ rs) e = rw (is r, all_empty n rs (omega (arith, e))) (sym (all_first (λ i. z (get_or (r ∷ rs) i d)) n))

pub and_last : (a b c d : Bool) → a && (b && (c && d)) ≡ ((a && b) && c) && d
and_last true true c d = refl
and_last true false c d = refl
and_last false b c d = refl

no_amount_is : (x : ℤ) → int_eq x (pos 0) ≡ is_zero x
no_amount_is x = go (int_eq x (pos 0)) (is_zero x) (λ e. ap is_zero ((Decides-int_eq x (pos 0)).0 e)) (λ e. (Decides-int_eq x (pos 0)).1 (zero_is x e))
  where
    go : (s t : Bool) → (s ≡ true → t ≡ true) → (t ≡ true → s ≡ true) → s ≡ t
    go true t f g = sym (f refl)
    go false true f g = g refl
    go false false f g = refl

pub no_amount : (x : ℤ) (a b c d : Bool) → int_eq x (pos 0) && (a && (b && (c && d))) ≡ (((is_zero x && a) && b) && c) && d
no_amount x a b c d = ap (λ t. t && (a && (b && (c && d)))) (no_amount_is x) ∙ more (is_zero x)
  where
    more : (t : Bool) → t && (a && (b && (c && d))) ≡ (((t && a) && b) && c) && d
    more true = and_last a b c d
    more false = refl
