-- Document 01, module 3: the rounds of an offer, where its negotiation stands, what stands against a round, a round added, agreement. How many places there are for rounds, and how many are allowed, are parameters.
use Rattle.std.specs.Prelude.{ℕ, zero, suc, ◌+◌, min, Bool, false, not, ◌&&◌, ◌||◌, List, [], ◌∷◌, get_or, set, replicate, leb, ltb, eqb, pos}
use Rattle.refusal.specs.Choice.{pick}
use Rattle.refusal.specs.Refusal.{Check, ◌gives◌, invalid_input, invalid_transition}
use Rattle.money.specs.Range.{is_zero}
use Rattle.terms.specs.Terms.{terms_ok, same_terms}
use Rattle.terms.specs.declared.Terms.{Terms}
use Rattle.table.specs.Tables.{Found, absent, here}
use Rattle.table.specs.Test.{all_below, rows_test}
use Rattle.negotiation.specs.declared.Round.{Round}
use Rattle.negotiation.specs.declared.Negotiation.{Negotiation}

-- an offer has places for this many rounds; how many of them it gets is its edition's
abbrev pub round_slots : ℕ
round_slots = 16

abbrev pub no_round : Round
no_round = record { amount = pos 0; duration = 0; time = 0; rate = 0; party = 0 }

abbrev pub no_negotiation : Negotiation
no_negotiation = record { rounds = replicate round_slots no_round; deadline = 0; len = 0; outcome = 0 }

abbrev pub terms_of : Round → Terms
terms_of r = record { amount = r.amount; rate = r.rate; duration = r.duration }

abbrev pub round_of : ℕ → Terms → ℕ → Round
round_of now t party = record { amount = t.amount; duration = t.duration; time = now; rate = t.rate; party = party }

-- now + window, stopped at 2^64 - 1, set at the first round only
unfoldable pub deadline_of : ℕ → ℕ → ℕ → ℕ → ℕ
deadline_of len now window old = pick (eqb len 0) (min (now + window) 18446744073709551615) old

-- a stored outcome wins; no rounds gives None (0); an offer that is not Pending gives Closed (2); now > deadline gives Expired (4), else Open (1)
unfoldable pub status_of : Negotiation → Bool → ℕ → ℕ
status_of n pending now =
    pick (not (eqb n.outcome 0)) n.outcome
    (pick (eqb n.len 0) 0
    (pick (not pending) 2
    (pick (ltb n.deadline now) 4 1)))

-- offer not Pending 7; status not None or Open 7; rounds ≠ expected round 3; rounds at the limit 7
abbrev pub negotiable : ℕ → Negotiation → Bool → ℕ → ℕ → List Check
negotiable limit n pending now round =
    (not pending gives invalid_transition)
    ∷ (ltb 1 (status_of n pending now) gives invalid_transition)
    ∷ (not (eqb n.len round) gives invalid_input)
    ∷ (leb limit n.len gives invalid_transition)
    ∷ []

unfoldable pub added_of : ℕ → Negotiation → Round → ℕ → Negotiation
added_of slots n r window =
    pick (leb slots n.len) n
    (record {
      rounds = set n.rounds n.len r;
      deadline = deadline_of n.len r.time window n.deadline;
      len = n.len + 1;
      outcome = n.outcome;
    })

abbrev pub closed_as : ℕ → Negotiation → Negotiation
closed_as outcome n = record { rounds = n.rounds; deadline = n.deadline; len = n.len; outcome = outcome }

-- Accepted is stored if there are rounds and no outcome
unfoldable pub accepted_of : Negotiation → Negotiation
accepted_of n = pick (eqb n.len 0) n (pick (not (eqb n.outcome 0)) n (closed_as 3 n))

-- of the first k rounds, the terms of the originator's latest
unfoldable pub latest_below : List Round → ℕ → Found Terms
latest_below rs zero = absent
latest_below rs (suc k) = pick (eqb (get_or rs k no_round).party 1) (here (terms_of (get_or rs k no_round))) (latest_below rs k)

abbrev pub asked : ℕ → Negotiation → Found Terms
asked slots n = pick (ltb slots n.len) absent (latest_below n.rounds n.len)

-- agreement: the same three terms
unfoldable pub matches : Terms → Found Terms → Bool
matches t absent = false
matches t (here u) = same_terms u t

unfoldable pub agrees_of : ℕ → Negotiation → Terms → Bool
agrees_of slots n t = matches t (asked slots n)

-- ── What a sound book holds of it ─────────────────────────────────
unfoldable pub round_sound : Round → Bool
round_sound r = terms_ok (terms_of r) && leb r.party 1

unfoldable pub round_zero : Round → Bool
round_zero r = (((is_zero r.amount && eqb r.duration 0) && eqb r.time 0) && eqb r.rate 0) && eqb r.party 0

unfoldable pub negotiation_sound : ℕ → ℕ → Negotiation → Bool
negotiation_sound slots limit n =
    (leb n.len limit && rows_test round_sound round_zero no_round slots n.len n.rounds)
    && (eqb n.outcome 0 || (leb 2 n.outcome && leb n.outcome 4))

unfoldable pub negotiation_zero : ℕ → Negotiation → Bool
negotiation_zero slots n =
    ((all_below slots (λ i. round_zero (get_or n.rounds i no_round)) && eqb n.deadline 0) && eqb n.len 0) && eqb n.outcome 0
