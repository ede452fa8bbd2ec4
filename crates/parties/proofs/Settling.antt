-- What is seen of a table, settled, is the settled table, seen
use Rattle.std.specs.Prelude.{ℕ, ◌≡◌, refl, Bool, true, false, not, cond, List, [], ◌∷◌, Some, Result, Ok, Err}
use Rattle.std.proofs.Common.{sym, ◌∙◌}
use Rattle.std.proofs.Math.Path.{ap}
use Rattle.refusal.specs.Choice.{pick}
use Rattle.refusal.specs.declared.Refusal.{Refusal}
use Rattle.refusal.specs.Refusal.{Check, not_found}
use Rattle.refusal.specs.Rule.{Rule, next, answered, verdict, outcome, on_done, then_of, said}
use Rattle.refusal.specs.Returned.{outcome_next, outcome_says}
use Rattle.terms.specs.declared.Terms.{Terms}
use Rattle.table.specs.Tables.{Table, adjust}
use Rattle.account.specs.declared.Account.{Account}
use Rattle.account.specs.Rules.{debit_of, credit_of, accept_of}
use Rattle.parties.specs.declared.Parties.{Parties}
use Rattle.parties.specs.Settlement.{seen_in, on_row, settle_accounts}
use Rattle.parties.specs.Parties.{put_first, put_second, turned, parties_of, on_first, on_second, settling, Settles}
use Rattle.parties.specs.Laws.{first_put, second_put, turned_by}

-- two things done on the same checks
same_done : {A B C : Type 0} (f : A → C) (g : B → C) (x : A) (y : B) → f x ≡ g y → (ks : List Check) → on_done f (verdict ks x) ≡ on_done g (verdict ks y)
same_done f g x y e [] = ap Ok e
same_done {A} {B} {C} f g x y e (k ∷ ks) = elim k.0 as (λ t. ◌≡◌ {A = Result C Refusal} (on_done f (cond t (Err k.1) (verdict ks x))) (on_done g (cond t (Err k.1) (verdict ks y))))
    [ true ↦ refl | false ↦ same_done f g x y e ks ]

-- a rule for a row that is seen, where putting it shows what is seen of the table with it
module _ (put : Account → Parties) (g : Table Account → Parties) (adj : Account → Table Account) (same : (x : Account) → put x ≡ g (adj x)) (f : Account → Rule Account) (r : Account) where
  stepped : (h : Bool) → then_of (cond h (Err not_found) (Ok r)) (λ z. on_done put (outcome (f z))) ≡ on_done g (cond h (Err not_found) (verdict (f r).checks (adj (f r).done)))
  stepped true = refl
  stepped false = same_done put g (f r).done (adj (f r).done) (same (f r).done) (f r).checks

module _ (a b : ℕ) (f : Account → Rule Account) (t : Table Account) where
  pub first_step : on_first f (parties_of a b t) ≡ on_done (parties_of a b) (outcome (on_row a f t))
  first_step = stepped (put_first (parties_of a b t)) (parties_of a b) (λ x. adjust t a (λ old. x)) (first_put (Some a) (Some b) t) f (seen_in t a).row (not (seen_in t a).here)

  pub second_step : on_second f (parties_of a b t) ≡ on_done (parties_of a b) (outcome (on_row b f t))
  second_step = stepped (put_second (parties_of a b t)) (parties_of a b) (λ x. adjust t b (λ old. x)) (second_put (Some a) (Some b) t) f (seen_in t b).row (not (seen_in t b).here)

-- rules one after the other, of what is seen
module _ {A B : Type 0} (g : A → B) where
  chained : (o : Result A Refusal) (f : A → Result A Refusal) (h : B → Result B Refusal) → ((v : A) → h (g v) ≡ on_done g (f v)) → then_of (on_done g o) h ≡ on_done g (then_of o f)
  chained (Ok v) f h e = e v
  chained (Err k) f h e = refl

  next_seen : (u : Rule A) (f : A → Rule A) (h : B → Result B Refusal) → ((v : A) → h (g v) ≡ on_done g (outcome (f v))) → then_of (on_done g (outcome u)) h ≡ on_done g (outcome (next u f))
  next_seen u f h e = chained (outcome u) (λ v. outcome (f v)) h e ∙ ap (on_done g) (sym (outcome_next u f))

-- what is seen of a table, settled, is what is seen of the settled table: whether the two are one row or not
pub settling_is : (a b : ℕ) (t : Table Account) (x : Terms) → settling x (parties_of a b t) ≡ on_done (parties_of a b) (outcome (settle_accounts t a b x))
settling_is a b t x =
    ap (λ o. then_of o gained) (first_step a b debit t)
    ∙ next_seen g (on_row a debit t) (λ v. next (on_row b credit v) (on_row a accept)) gained (λ v.
    ap (λ o. then_of o (on_first accept)) (second_step a b credit v)
    ∙ next_seen g (on_row b credit v) (on_row a accept) (on_first accept) (first_step a b accept))
  where
    g : Table Account → Parties
    g = parties_of a b

    debit : Account → Rule Account
    debit r = debit_of r x

    credit : Account → Rule Account
    credit r = credit_of r x

    accept : Account → Rule Account
    accept r = accept_of r x

    gained : Parties → Result Parties Refusal
    gained q = then_of (on_second credit q) (on_first accept)

-- by either side
turned_back : (a b : ℕ) (o : Result (Table Account) Refusal) → on_done turned (on_done (parties_of a b) o) ≡ on_done (parties_of b a) o
turned_back a b (Ok v) = ap Ok (turned_by (Some a) (Some b) v)
turned_back a b (Err k) = refl

module _ {p : Parties} (t : Terms) (lends : Bool) {r : Result Parties Refusal} where
  pub first_lends : lends ≡ true → ((a b : ℕ) (u : Table Account) → p ≡ parties_of a b u → r ≡ on_done (parties_of a b) (outcome (settle_accounts u a b t))) → Settles lends p t r
  unfolding pick
  first_lends e h = rw e h

  pub second_lends : {o : Parties} {q : Result Parties Refusal} → lends ≡ false → o ≡ turned p → ((a b : ℕ) (u : Table Account) → o ≡ parties_of a b u → q ≡ on_done (parties_of a b) (outcome (settle_accounts u a b t)))
      → r ≡ on_done turned q → Settles lends p t r
  unfolding pick
  second_lends e h k w = rw e (λ a b u z. w ∙ ap (on_done turned) (k a b u (h ∙ ap turned z ∙ turned_by (Some b) (Some a) u)) ∙ turned_back a b _)

  -- as the code settles
  pub first_settles : lends ≡ true → r ≡ settling t p → Settles lends p t r
  first_settles e h = first_lends e (λ a b u z. h ∙ ap (settling t) z ∙ settling_is a b u t)

  pub second_settles : lends ≡ false → r ≡ on_done turned (settling t (turned p)) → Settles lends p t r
  second_settles e h = second_lends e refl (λ a b u z. ap (settling t) z ∙ settling_is a b u t) h

-- what was returned as an answer's number and what is seen after it, as mk puts them
pub settled_says : {S : Type 0} (mk : ℕ → Parties → S) (g : Table Account → Parties) (u : Table Account) (v : Rule (Table Account)) {r : Result Parties Refusal} → r ≡ on_done g (outcome v) → said mk (g u) r ≡ answered (λ n t. mk n (g t)) u v
settled_says {S} mk g u v e = ap (said mk (g u)) e ∙ go (outcome v) ∙ outcome_says (λ n t. mk n (g t)) u v
  where
    go : (o : Result (Table Account) Refusal) → said mk (g u) (on_done g o) ≡ said (λ n t. mk n (g t)) u o
    go (Ok x) = refl
    go (Err k) = refl
