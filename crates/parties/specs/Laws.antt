-- A row put anew in a table is seen anew at both keys
use Rattle.table.specs.Seen.{put_seen}
use Rattle.std.specs.Prelude.{ℕ, ◌≡◌, refl, Bool, true, false, not, cond, eqb, None, Some}
use Rattle.std.proofs.Common.{sym, ◌∙◌}
use Rattle.std.proofs.Math.Path.{ap}
use Rattle.std.proofs.lemmas.Bool.{not-true, not-false}
use Rattle.refusal.specs.Choice.{pick}
use Rattle.refusal.specs.ChoiceLaws.{pick_on, pick_off}
use Rattle.table.specs.Tables.{Found, absent, here, Table, find, insert, fmap}
use Rattle.table.proofs.TableLaws.{find_insert}
use Rattle.table.proofs.SameId.{find_in_lem}
use Rattle.table.specs.Named.{Named, same, find_by, put_by}
use Rattle.table.proofs.NamedLaws.{same_swap, same_found, found_by, found_other}
use Rattle.account.specs.Seen.{put_account, seen_account}
use Rattle.account.specs.declared.Account.{Account}
use Rattle.account.specs.Seen.{SeenAccount}
use Rattle.parties.specs.declared.Parties.{Parties}
use Rattle.parties.specs.Parties.{put_first, put_second, turned, let_in, seen_by, parties_by}

put_found : (f : Found Account) (x : Account) → put_account (seen_account f) x ≡ seen_account (fmap (λ old. x) f)
unfolding put_seen pick fmap
put_found absent x = refl
put_found (here r) x = refl

-- at the key itself, and at another that may name the same row
pub own : (t : Table Account) (a : Named) (x : Account) → put_account (seen_by t a) x ≡ seen_by (put_by t a x) a
own t a x = put_found (find_by t a) x ∙ ap seen_account (sym (found_by t a x))

other : (t : Table Account) (a b : Named) (x : Account) → pick (same a b) (put_account (seen_by t a) x) (seen_by t b) ≡ seen_by (put_by t a x) b
unfolding pick
other t a b x = go (same a b) refl
  where
    go : (e : Bool) → same a b ≡ e → pick e (put_account (seen_by t a) x) (seen_by t b) ≡ seen_by (put_by t a x) b
    go true e =
        ap (λ z. put_account (seen_account z) x) (same_found t a b e) ∙ put_found (find_by t b) x
        ∙ ap seen_account (sym (found_other t a b x ∙ ap (λ z. cond z (fmap (λ old. x) (find_by t b)) (find_by t b)) e))
    go false e = ap seen_account (sym (found_other t a b x ∙ ap (λ z. cond z (fmap (λ old. x) (find_by t b)) (find_by t b)) e))

abbrev both : SeenAccount → SeenAccount → Bool → Parties
both p q e = record { first = p; second = q; one = e }

module _ (a b : Named) (t : Table Account) (x : Account) where
  pub first_put : put_first (parties_by a b t) x ≡ parties_by a b (put_by t a x)
  first_put = ap (λ z. both z (pick (same a b) (put_account (seen_by t a) x) (seen_by t b)) (same a b)) (own t a x) ∙ ap (λ z. both (seen_by (put_by t a x) a) z (same a b)) (other t a b x)

  pub second_put : put_second (parties_by a b t) x ≡ parties_by a b (put_by t b x)
  second_put =
      ap (λ z. both z (put_account (seen_by t b) x) (same a b)) (ap (λ z. pick z (put_account (seen_by t b) x) (seen_by t a)) (same_swap a b) ∙ other t b a x)
      ∙ ap (λ z. both (seen_by (put_by t b x) a) z (same a b)) (own t b x)

-- the code of a put
module _ (p : Parties) (x : Account) {n : SeenAccount} where
  pub first_alone : n ≡ put_account p.first x → not p.one ≡ true → both n p.second p.one ≡ put_first p x
  first_alone e h = ap (λ z. both z p.second p.one) e ∙ ap (λ z. both (put_account p.first x) z p.one) (sym (pick_off (put_account p.first x) p.second (not-true _ h)))

  pub first_both : n ≡ put_account p.first x → not p.one ≡ false → both n n p.one ≡ put_first p x
  first_both e h = ap (λ z. both z z p.one) e ∙ ap (λ z. both (put_account p.first x) z p.one) (sym (pick_on (put_account p.first x) p.second (not-false _ h)))

  pub second_alone : n ≡ put_account p.second x → not p.one ≡ true → both p.first n p.one ≡ put_second p x
  second_alone e h = ap (λ z. both p.first z p.one) e ∙ ap (λ z. both z (put_account p.second x) p.one) (sym (pick_off (put_account p.second x) p.first (not-true _ h)))

  pub second_both : n ≡ put_account p.second x → not p.one ≡ false → both n n p.one ≡ put_second p x
  second_both e h = ap (λ z. both z z p.one) e ∙ ap (λ z. both z (put_account p.second x) p.one) (sym (pick_on (put_account p.second x) p.first (not-false _ h)))

-- the parties, turned
pub turned_by : (a b : Named) (t : Table Account) → turned (parties_by a b t) ≡ parties_by b a t
turned_by a b t = ap (both (seen_by t b) (seen_by t a)) (same_swap a b)

-- the code of a row let in
module _ (p : Parties) (x : Account) where
  pub let_alone : not p.one ≡ true → both (record { here = true; row = x }) p.second p.one ≡ let_in p x
  let_alone h = ap (λ z. both (record { here = true; row = x }) z p.one) (sym (pick_off (record { here = true; row = x }) p.second (not-true _ h)))

  pub let_both : not p.one ≡ false → both (record { here = true; row = x }) (record { here = true; row = x }) p.one ≡ let_in p x
  let_both h = ap (λ z. both (record { here = true; row = x }) z p.one) (sym (pick_on (record { here = true; row = x }) p.second (not-false _ h)))

-- a row let in at the first key is seen at both
pub let_seen : (a : ℕ) (b : Named) (t : Table Account) (x : Account) → find t a ≡ absent → let_in (parties_by (Some a) b t) x ≡ parties_by (Some a) b (insert t a x)
unfolding pick
let_seen a b t x n = ap (λ z. both z (pick (same (Some a) b) (record { here = true; row = x }) (seen_by t b)) (same (Some a) b)) (ap seen_account (sym (find_in_lem t a x n))) ∙ ap (λ z. both (seen_by (insert t a x) (Some a)) z (same (Some a) b)) (go b)
  where
    go : (k : Named) → pick (same (Some a) k) (record { here = true; row = x }) (seen_by t k) ≡ seen_by (insert t a x) k
    go None = refl
    go (Some k) = at (eqb a k) refl
      where
        at : (e : Bool) → eqb a k ≡ e → pick e (record { here = true; row = x }) (seen_by t (Some k)) ≡ seen_account (find (insert t a x) k)
        at true e = ap seen_account (sym (find_insert t a k x n ∙ ap (λ z. cond z (here x) (find t k)) e))
        at false e = ap seen_account (sym (find_insert t a k x n ∙ ap (λ z. cond z (here x) (find t k)) e))
