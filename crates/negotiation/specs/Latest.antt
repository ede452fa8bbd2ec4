-- The originator's latest round as a negotiation goes on, and agreement with it. For any number of places for rounds. Assumes nothing.
use Rattle.std.specs.Prelude.{ℕ, zero, suc, ◌+◌, ◌-◌, ◌<◌, ◌≤◌, ◌≡◌, refl, true, false, List, get_or, set, leb, eqb}
use Rattle.std.proofs.Common.{add-one, arith, sym, ◌∙◌, get_or-set_other}
use Rattle.std.proofs.Math.Path.{ap}
use Rattle.std.proofs.Math.Seq.{get_or-set_same}
use borrow.Author.Tests.{leb-false, le-ltb}
use Rattle.refusal.specs.Choice.{pick}
use Rattle.refusal.specs.ChoiceLaws.{pick_on, pick_off}
use Rattle.money.specs.Facts.{never}
use Rattle.terms.specs.Answers.{same_terms_is, is_same_terms}
use Rattle.terms.specs.declared.Terms.{Terms}
use Rattle.table.specs.Tables.{Found, absent, here}
use Rattle.negotiation.specs.declared.Round.{Round}
use Rattle.negotiation.specs.declared.Negotiation.{Negotiation}
use Rattle.negotiation.specs.Rounds.{no_round, no_negotiation, terms_of, round_of, added_of, accepted_of, closed_as, latest_below, asked, matches}
use Rattle.negotiation.specs.Whole.{Whole}
use Rattle.negotiation.specs.Laws.{added_is, accepted_has}

-- a turn of the walk from the latest round down
pub latest_step : (rs : List Round) (i : ℕ) → 0 < i
    → latest_below rs i ≡ pick (eqb (get_or rs (i - 1) no_round).party 1) (here (terms_of (get_or rs (i - 1) no_round))) (latest_below rs (i - 1))
unfolding latest_below
latest_step rs zero h = absurd (omega arith)
latest_step rs (suc k) h = let e : suc k - 1 ≡ k = omega arith in rw e

-- a round at j or later is not among the first j
latest_set : (rs : List Round) (r : Round) (j k : ℕ) → k ≤ j → latest_below (set rs j r) k ≡ latest_below rs k
unfolding latest_below
latest_set rs r j zero h = refl
latest_set rs r j (suc k) h = rw (get_or-set_other rs j k r no_round (λ e. omega arith), latest_set rs r j k (omega arith))

-- a round added is the originator's latest, if it is the originator's
module _ (slots : ℕ) (n : Negotiation) (w : Whole slots n) (room : leb slots n.len ≡ false) (window : ℕ) where
  added_asked : (r : Round) → asked slots (added_of slots n r window) ≡ pick (eqb r.party 1) (here (terms_of r)) (asked slots n)
  unfolding latest_below
  added_asked r =
      let l = leb-false slots n.len room in
      ap (asked slots) (added_is slots n r window room)
      ∙ pick_off absent _ (le-ltb slots (n.len + 1) (omega arith))
      ∙ rw (add-one, get_or-set_same n.rounds n.len r no_round (omega (arith, w.long)), latest_set n.rounds r n.len n.len (omega arith))
      (sym (ap (pick (eqb r.party 1) (here (terms_of r))) (pick_off absent _ (le-ltb slots n.len (omega arith)))))

  pub counter_asked : (now : ℕ) (t : Terms) → asked slots (added_of slots n (round_of now t 1) window) ≡ here t
  counter_asked now t = added_asked (round_of now t 1) ∙ pick_on (here t) (asked slots n) refl

  pub amend_asked : (now : ℕ) (t : Terms) → asked slots (added_of slots n (round_of now t 0) window) ≡ asked slots n
  amend_asked now t = added_asked (round_of now t 0) ∙ pick_off (here t) (asked slots n) refl

pub none_asked : (slots : ℕ) → asked slots no_negotiation ≡ absent
unfolding latest_below
none_asked slots = pick_off absent absent (le-ltb slots 0 (omega arith))

pub accepted_asked : (slots : ℕ) (n : Negotiation) → asked slots (accepted_of n) ≡ asked slots n
accepted_asked slots n = accepted_has (λ m. asked slots m ≡ asked slots n) n refl refl

pub closed_asked : (slots o : ℕ) (n : Negotiation) → asked slots (closed_as o n) ≡ asked slots n
closed_asked slots o n = refl

-- agreement is with just the terms of that round
pub matches_is : (t : Terms) (o : Found Terms) → matches t o ≡ true → o ≡ here t
unfolding matches
matches_is t absent e = absurd (never e)
matches_is t (here u) e = ap here (same_terms_is u t e)

pub is_matches : (t : Terms) (o : Found Terms) → o ≡ here t → matches t o ≡ true
unfolding matches
is_matches t o e = rw e (is_same_terms t t refl)
