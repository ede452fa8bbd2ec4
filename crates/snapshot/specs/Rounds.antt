-- The rounds in use and the places after them. Assumes nothing.
use Rattle.std.specs.Prelude.{◌≡◌, true, ◌&&◌, ◌||◌, length, take, replicate}
use Rattle.std.proofs.Math.Path.{refl, sym, ap}
use mathlib.Core.List.{List, [], ◌∷◌}
use Prim.Native.Nat.{ℕ, zero, suc, ◌≤◌, ◌<◌}
use Rattle.std.proofs.Common.{arith, length-take-le}
use Rattle.std.proofs.Math.Dec.{leb}
use Rattle.std.proofs.Math.ListN.{get_or}
use borrow.Author.Tests.{leb-true}
use Rattle.edition.specs.Edition.{round_limit, keeps_terms}
use Rattle.money.specs.Range.{in_total}
use Rattle.money.specs.Facts.{both}
use Rattle.terms.specs.Terms.{terms_ok}
use Rattle.terms.specs.Status.{status_listed}
use Rattle.terms.specs.Schedule.{schedule_zero, schedule_ok}
use Rattle.table.specs.Padded.{padded}
use Rattle.table.specs.All.{all-at}
use Rattle.table.specs.Test.{row_test, rows_test}
use Rattle.table.proofs.TestLaws.{free}
use Rattle.negotiation.specs.declared.Round.{Round}
use Rattle.negotiation.specs.declared.Negotiation.{Negotiation}
use Rattle.negotiation.specs.Rounds.{round_slots, no_round, round_sound, round_zero, negotiation_sound}
use Rattle.negotiation.specs.Laws.{round-zero}
use Rattle.offer.specs.declared.Deal.{Deal}
use Rattle.offer.specs.Offer.{deal_sound}

module _ {A : Type 0} (d : A) where
  pub take_padded : (n : ℕ) (t : List A) → length t ≤ n → take (length t) (padded d (λ x. x) n t) ≡ t
  unfolding padded
  take_padded n [] h = refl
  take_padded zero (x ∷ t) h = absurd (omega arith)
  take_padded (suc n) (x ∷ t) h = ap (λ l. x ∷ l) (take_padded n t (omega arith))

  -- no round in use
  pub none_padded : (n : ℕ) → replicate n d ≡ padded d (λ x. x) n []
  unfolding padded
  none_padded zero = refl
  none_padded (suc n) = ap (λ l. d ∷ l) (none_padded n)

pub rounds_back : (deadline outcome : ℕ) (rs : List Round) → length rs ≤ round_slots → ◌≡◌ {A = ℕ × (ℕ × List Round)} (deadline, (outcome, take (length rs) (padded no_round (λ r. r) round_slots rs))) (deadline, (outcome, rs))
rounds_back deadline outcome rs h = ap (λ l. (deadline, (outcome, l))) (take_padded no_round round_slots rs h)

-- ── A negotiation of a sound book is its rounds in use, and zero after them
module _ {A : Type 0} (d : A) where
  pub pad_take : (n : ℕ) (rs : List A) (c : ℕ) → length rs ≡ n → c ≤ n → ((i : ℕ) → c ≤ i → i < n → get_or rs i d ≡ d) → padded d (λ x. x) n (take c rs) ≡ rs
  unfolding padded
  pad_take zero [] c l h f = refl
  pad_take zero (x ∷ rs) c l h f = absurd (omega arith)
  pad_take (suc n) [] c l h f = absurd (omega arith)
  pad_take (suc n) (x ∷ rs) zero l h f =
      let e : d ≡ x = sym (f 0 (omega arith) (omega arith)) in
      rw (← e) (ap (λ w. d ∷ w) (pad_take n rs 0 (omega arith) (omega arith) (λ i p q. f (suc i) (omega arith) (omega arith))))
  pad_take (suc n) (x ∷ rs) (suc c) l h f = ap (λ w. x ∷ w) (pad_take n rs c (omega arith) (omega arith) (λ i p q. f (suc i) (omega arith) (omega arith)))

module _ (limit : ℕ) (n : Negotiation) (e : negotiation_sound round_slots limit n ≡ true) where
  pub few_rounds : n.len ≤ limit
  unfolding negotiation_sound
  few_rounds = leb-true n.len limit (both _ _ (both _ _ e).0).0

  rest_zero : (i : ℕ) → n.len ≤ i → i < round_slots → get_or n.rounds i no_round ≡ no_round
  unfolding negotiation_sound
  rest_zero i h k =
      let few = leb n.len limit in
      let all = rows_test round_sound round_zero no_round round_slots n.len n.rounds in
      let r = (both few all (both (few && all) _ e).0).1 in
      let x = get_or n.rounds i no_round in
      round-zero x (free n.len i (round_sound x) (round_zero x) (all-at (row_test round_sound round_zero no_round n.len n.rounds) round_slots r i k) h)

  pub same_rounds : limit ≤ round_slots → length n.rounds ≡ round_slots
      → ◌≡◌ {A = Negotiation} (record { rounds = padded no_round (λ r. r) round_slots (take n.len n.rounds); deadline = n.deadline; len = length (take n.len n.rounds); outcome = n.outcome }) n
  same_rounds m l =
      made (pad_take no_round round_slots n.rounds n.len l (omega (arith, few_rounds, m)) rest_zero) (length-take-le n.len n.rounds (omega (arith, l, few_rounds, m)))
    where
      made : {rs : List Round} {k : ℕ} → rs ≡ n.rounds → k ≡ n.len → ◌≡◌ {A = Negotiation} (record { rounds = rs; deadline = n.deadline; len = k; outcome = n.outcome }) n
      made p q = rw (p, q)

pub deal_rounds : (e : ℕ) (d : Deal) → deal_sound e d ≡ true → negotiation_sound round_slots (round_limit e) d.negotiation ≡ true
unfolding deal_sound
deal_rounds e d h =
    let s = (terms_ok d.offer.terms && in_total d.offer.repaid) && status_listed d.offer.status in
    let n = negotiation_sound round_slots (round_limit e) d.negotiation in
    (both s n (both (s && n) (schedule_zero d.schedule || schedule_ok (keeps_terms e) d.schedule) h).0).1

pub deal_schedule : (e : ℕ) (d : Deal) → deal_sound e d ≡ true → schedule_zero d.schedule || schedule_ok (keeps_terms e) d.schedule ≡ true
unfolding deal_sound
deal_schedule e d h =
    (both (((terms_ok d.offer.terms && in_total d.offer.repaid) && status_listed d.offer.status) && negotiation_sound round_slots (round_limit e) d.negotiation) (schedule_zero d.schedule || schedule_ok (keeps_terms e) d.schedule) h).1

-- a negotiation made of the rounds that were read
pub laid_rounds_lem : (deadline outcome : ℕ) (all : List Round) {rs : List Round} {n : ℕ} → ◌≡◌ {A = List Round × ℕ} (rs, n) (padded no_round (λ r. r) round_slots all, length all)
    → ◌≡◌ {A = Negotiation} (record { rounds = padded no_round (λ r. r) round_slots all; deadline = deadline; len = length all; outcome = outcome }) (record { rounds = rs; deadline = deadline; len = n; outcome = outcome })
laid_rounds_lem deadline outcome all e = sym (ap (λ (z : List Round × ℕ). record { rounds = z.0; deadline = deadline; len = z.1; outcome = outcome }) e)
