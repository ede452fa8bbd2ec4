-- Document 01, module 6: the offers asked for, ids ascending, into a lent buffer, each as ten 64-bit numbers; too short gives 14, and room past the answer is untouched.
use Rattle.std.specs.Prelude.{ℕ, ◌*◌, ◌≤◌, ◌≡◌, Bool, not, Result, Ok, Err, List, [], ◌∷◌, length, ltb}
use Rattle.refusal.specs.Refusal.{number, ◌gives◌, invalid_input, buffer_short}
use Rattle.refusal.specs.declared.Refusal.{Refusal}
use Rattle.refusal.specs.Rule.{Rule}
use Rattle.money.specs.Range.{bits_of}
use Rattle.table.specs.Tables.{Table}
use Rattle.table.specs.Shelf.{table_of}
use Rattle.offer.specs.declared.Offer.{Offer}
use Rattle.lists.specs.declared.OfferRows.{OfferRows}
use Rattle.lists.specs.declared.OfferNumbers.{OfferNumbers}
use Rattle.lists.specs.declared.Wanted.{Wanted}
use Rattle.refusal.specs.Placed.{placed}
use Rattle.lists.specs.Taking.{pick_from, spread}
use Rattle.lists.specs.Wanted.{wants, known}

-- the offers by id
abbrev pub offers_of : OfferRows → Table Offer
offers_of t = table_of t.ids t.rows t.count

-- what the types of the arrays say, and the number of rows in use
pub record InUse (t : OfferRows) (n : ℕ) : Type 0 where
  pub ids_long : length t.ids ≡ 64
  pub rows_long : length t.rows ≡ 64
  pub counted : n ≡ length (offers_of t)
  pub few : n ≤ 64
  pub most : n ≤ t.count

-- the Rust's field order without currency: id, invoice, lender, amount, rate, duration, expires, status, funded, amount repaid
abbrev pub numbers_of : ℕ → Offer → OfferNumbers
numbers_of id o = record {
  id = id;
  invoice = o.invoice;
  lender = o.lender;
  amount = bits_of o.terms.amount;
  rate = o.terms.rate;
  duration = o.terms.duration;
  expires = o.expires;
  status = o.status;
  funded = o.funded;
  repaid = bits_of o.repaid;
}

abbrev pub in_order : OfferNumbers → List ℕ
in_order n = n.id ∷ n.invoice ∷ n.lender ∷ n.amount ∷ n.rate ∷ n.duration ∷ n.expires ∷ n.status ∷ n.funded ∷ n.repaid ∷ []

abbrev pub ten_of : ℕ × Offer → List ℕ
ten_of e = in_order (numbers_of e.0 e.1)

-- the offers asked for, in the table's order
abbrev pub taking : Wanted → ℕ → ℕ × Offer → Bool
taking w place e = wants w place e.1

abbrev pub listing : Wanted → Table Offer → Table Offer
listing w t = pick_from (taking w) 0 t

-- the buffer with their numbers laid over its start
unfoldable pub filled : Wanted → Table Offer → List ℕ → List ℕ
filled w t l = placed 0 (spread ten_of (listing w t)) l

-- unlisted status 3, too short 14; else how many, and the buffer
abbrev pub list_rule : Wanted → Table Offer → List ℕ → Rule (List ℕ × List ℕ)
list_rule w t l = record {
  checks = (not (known w) gives invalid_input) ∷ (ltb (length l) (10 * length (listing w t)) gives buffer_short) ∷ [];
  done = (length (listing w t) ∷ [], filled w t l);
}

-- a query's answer: its number, 0 where it is no refusal, and its values
abbrev pub Reply : Type 0
Reply = ℕ × List ℕ

abbrev pub told : ℕ → List ℕ × List ℕ → Reply × List ℕ
told n x = ((n, x.0), x.1)

-- what is returned as a query's answer: 0 and the values of what it is, or the number of the refusal and none
abbrev pub reply_of : {A : Type 0} → (A → List ℕ) → Result A Refusal → Reply
reply_of values (Ok x) = (0, values x)
reply_of values (Err r) = (number r, [])

-- one number
abbrev pub one_value : ℕ → List ℕ
one_value n = n ∷ []

abbrev pub listed_says : Result ℕ Refusal → Reply
listed_says r = reply_of one_value r
