-- Document 01, "Journal and replay", and what an edition of document 02 adds: the commands' tags, their fields in ascending order, and the command that the fields make.
use Rattle.std.specs.Prelude.{Bool, ◌||◌, List, [], ◌∷◌, ◌++◌, ℕ, ◌-◌, length, get_or, replicate, eqb, ℤ}
use Rattle.refusal.specs.Choice.{pick}
use Rattle.edition.specs.Edition.{keeps_terms}
use Rattle.money.specs.Range.{of_bits, bits_of}
use Rattle.terms.specs.declared.Terms.{Terms}
use Rattle.command.specs.declared.Command.{Command}
use Rattle.command.specs.declared.Command.TheVariants.{OpenAccount, Deposit, Payout, Approve, RegisterInvoice, CancelInvoice, CreateOffer, WithdrawOffer, AcceptOffer, RejectOffer, AmendOffer, CounterOffer, CloseNegotiation, ScheduleRepayment, UpdateStatus, UpdateRepaid, UpdateLenderRepaid, UpdateTotalsRepaid, Pause, Unpause, SetWindow, SetRepaymentAccount, SetBlacklisted, SetSeats}
use Rattle.journal.specs.declared.reading.Values.{Values}
use Rattle.journal.specs.Answers.{Reading, found, malformed}

-- the fields' names: v holds the number of each field at the place of its tag. 05 amount and 0F fee are two's complement
abbrev pub from_numbers : ℤ → ℤ → List ℕ → Values
from_numbers amount fee v = record {
  now = get_or v 0x01 0;
  caller = get_or v 0x02 0;
  id = get_or v 0x03 0;
  invoice = get_or v 0x04 0;
  amount = amount;
  rate = get_or v 0x06 0;
  duration = get_or v 0x07 0;
  expires = get_or v 0x08 0;
  round = get_or v 0x09 0;
  count = get_or v 0x0A 0;
  code = get_or v 0x0B 0;
  first = get_or v 0x0C 0;
  seats = get_or v 0x0D 0;
  threshold = get_or v 0x0E 0;
  fee = fee;
  window = get_or v 0x11 0;
  next = get_or v 0x12 0;
  kind = get_or v 0x14 0;
}

unfoldable pub named : List ℕ → Values
named v = from_numbers (of_bits (get_or v 0x05 0)) (of_bits (get_or v 0x0F 0)) v

-- rate, round, count, code and threshold stay below 2^32
abbrev pub is_narrow : ℕ → Bool
is_narrow f = (((eqb f 0x06 || eqb f 0x09) || eqb f 0x0A) || eqb f 0x0B) || eqb f 0x0E

unfoldable pub top_of : ℕ → ℕ
top_of f = pick (is_narrow f) 4294967295 18446744073709551615

pub record Row : Type 0 where
  pub tag : ℕ
  pub fields : List ℕ
  pub make : Values → Command

abbrev row : ℕ → List ℕ → (Values → Command) → Row
row t l m = record { tag = t; fields = l; make = m }

abbrev terms_in : Values → Terms
terms_in f = record { amount = f.amount; rate = f.rate; duration = f.duration }

-- a field that only some editions' records have: its tag among the fields, its number among the numbers
abbrev pub also : Bool → ℕ → List ℕ
also has x = pick has (x ∷ []) []

-- the records, by what the edition has: from edition 5 on (j) a schedule's kind, 14
abbrev pub rows_in : Bool → List Row
rows_in kinds =
    row 0x21 (0x01 ∷ 0x02 ∷ []) (λ f. OpenAccount f.now f.caller)
    ∷ row 0x22 (0x01 ∷ 0x02 ∷ 0x05 ∷ []) (λ f. Deposit f.now f.caller f.amount)
    ∷ row 0x23 (0x01 ∷ 0x02 ∷ 0x05 ∷ []) (λ f. Payout f.now f.caller f.amount)
    ∷ row 0x24 (0x01 ∷ 0x02 ∷ 0x05 ∷ []) (λ f. Approve f.now f.caller f.amount)
    ∷ row 0x25 (0x01 ∷ 0x02 ∷ 0x03 ∷ 0x05 ∷ []) (λ f. RegisterInvoice f.now f.caller f.id f.amount)
    ∷ row 0x26 (0x01 ∷ 0x02 ∷ 0x03 ∷ []) (λ f. CancelInvoice f.now f.caller f.id)
    ∷ row 0x31 (0x01 ∷ 0x02 ∷ 0x03 ∷ 0x04 ∷ 0x05 ∷ 0x06 ∷ 0x07 ∷ 0x08 ∷ []) (λ f. CreateOffer f.now f.caller f.id f.invoice (terms_in f) f.expires)
    ∷ row 0x32 (0x01 ∷ 0x02 ∷ 0x03 ∷ []) (λ f. WithdrawOffer f.now f.caller f.id)
    ∷ row 0x33 (0x01 ∷ 0x02 ∷ 0x03 ∷ []) (λ f. AcceptOffer f.now f.caller f.id)
    ∷ row 0x34 (0x01 ∷ 0x02 ∷ 0x03 ∷ []) (λ f. RejectOffer f.now f.caller f.id)
    ∷ row 0x35 (0x01 ∷ 0x02 ∷ 0x03 ∷ 0x05 ∷ 0x06 ∷ 0x07 ∷ 0x09 ∷ []) (λ f. AmendOffer f.now f.caller f.id (terms_in f) f.round)
    ∷ row 0x36 (0x01 ∷ 0x02 ∷ 0x03 ∷ 0x05 ∷ 0x06 ∷ 0x07 ∷ 0x09 ∷ []) (λ f. CounterOffer f.now f.caller f.id (terms_in f) f.round)
    ∷ row 0x37 (0x01 ∷ 0x02 ∷ 0x03 ∷ []) (λ f. CloseNegotiation f.now f.caller f.id)
    ∷ row 0x38 (0x01 ∷ 0x02 ∷ 0x03 ∷ 0x0A ∷ 0x0B ∷ 0x0C ∷ also kinds 0x14) (λ f. ScheduleRepayment f.now f.caller f.id f.count f.code f.first f.kind)
    ∷ row 0x41 (0x01 ∷ 0x02 ∷ 0x03 ∷ 0x0B ∷ []) (λ f. UpdateStatus f.now f.caller f.id f.code)
    ∷ row 0x42 (0x01 ∷ 0x02 ∷ 0x03 ∷ 0x05 ∷ []) (λ f. UpdateRepaid f.now f.caller f.id f.amount)
    ∷ row 0x43 (0x01 ∷ 0x02 ∷ 0x03 ∷ 0x0B ∷ []) (λ f. UpdateLenderRepaid f.now f.caller f.id f.code)
    ∷ row 0x44 (0x01 ∷ 0x02 ∷ 0x05 ∷ 0x0F ∷ []) (λ f. UpdateTotalsRepaid f.now f.caller f.amount f.fee)
    ∷ row 0x51 (0x01 ∷ 0x0D ∷ []) (λ f. Pause f.now f.seats)
    ∷ row 0x52 (0x01 ∷ 0x0D ∷ []) (λ f. Unpause f.now f.seats)
    ∷ row 0x53 (0x01 ∷ 0x0D ∷ 0x11 ∷ []) (λ f. SetWindow f.now f.seats f.window)
    ∷ row 0x54 (0x01 ∷ 0x03 ∷ 0x0D ∷ []) (λ f. SetRepaymentAccount f.now f.id f.seats)
    ∷ row 0x55 (0x01 ∷ 0x03 ∷ 0x0B ∷ 0x0D ∷ []) (λ f. SetBlacklisted f.now f.id f.code f.seats)
    ∷ row 0x56 (0x01 ∷ 0x0D ∷ 0x0E ∷ 0x12 ∷ []) (λ f. SetSeats f.now f.seats f.threshold f.next)
    ∷ []

abbrev pub rows : ℕ → List Row
rows e = rows_in (keeps_terms e)

-- the fields of a tag, and none for a tag that no command has
unfoldable pub fields_in : List Row → ℕ → List ℕ
fields_in [] t = []
fields_in (r ∷ rs) t = pick (eqb t r.tag) r.fields (fields_in rs t)

unfoldable pub fields_of : ℕ → ℕ → List ℕ
fields_of e t = fields_in (rows e) t

-- the record of tag t at a place, with the place past it
unfoldable pub made_in : List Row → ℕ → Values → ℕ → ℕ → Reading
made_in [] t f at next = malformed at
made_in (r ∷ rs) t f at next = pick (eqb t r.tag) (found (r.make f) next) (made_in rs t f at next)

unfoldable pub made : ℕ → ℕ → Values → ℕ → ℕ → Reading
made e t f at next = made_in (rows e) t f at next

-- a command's tag and the numbers of its fields in order, likewise
unfoldable pub parts_in : Bool → Command → ℕ × List ℕ
parts_in kinds (OpenAccount t c) = (0x21, t ∷ c ∷ [])
parts_in kinds (Deposit t c a) = (0x22, t ∷ c ∷ bits_of a ∷ [])
parts_in kinds (Payout t c a) = (0x23, t ∷ c ∷ bits_of a ∷ [])
parts_in kinds (Approve t c a) = (0x24, t ∷ c ∷ bits_of a ∷ [])
parts_in kinds (RegisterInvoice t c i a) = (0x25, t ∷ c ∷ i ∷ bits_of a ∷ [])
parts_in kinds (CancelInvoice t c i) = (0x26, t ∷ c ∷ i ∷ [])
parts_in kinds (CreateOffer t c i v m x) = (0x31, t ∷ c ∷ i ∷ v ∷ bits_of m.amount ∷ m.rate ∷ m.duration ∷ x ∷ [])
parts_in kinds (WithdrawOffer t c i) = (0x32, t ∷ c ∷ i ∷ [])
parts_in kinds (AcceptOffer t c i) = (0x33, t ∷ c ∷ i ∷ [])
parts_in kinds (RejectOffer t c i) = (0x34, t ∷ c ∷ i ∷ [])
parts_in kinds (AmendOffer t c i m r) = (0x35, t ∷ c ∷ i ∷ bits_of m.amount ∷ m.rate ∷ m.duration ∷ r ∷ [])
parts_in kinds (CounterOffer t c i m r) = (0x36, t ∷ c ∷ i ∷ bits_of m.amount ∷ m.rate ∷ m.duration ∷ r ∷ [])
parts_in kinds (CloseNegotiation t c i) = (0x37, t ∷ c ∷ i ∷ [])
parts_in kinds (ScheduleRepayment t c i n k f d) = (0x38, t ∷ c ∷ i ∷ n ∷ k ∷ f ∷ also kinds d)
parts_in kinds (UpdateStatus t c i k) = (0x41, t ∷ c ∷ i ∷ k ∷ [])
parts_in kinds (UpdateRepaid t c i a) = (0x42, t ∷ c ∷ i ∷ bits_of a ∷ [])
parts_in kinds (UpdateLenderRepaid t c i k) = (0x43, t ∷ c ∷ i ∷ k ∷ [])
parts_in kinds (UpdateTotalsRepaid t c a b) = (0x44, t ∷ c ∷ bits_of a ∷ bits_of b ∷ [])
parts_in kinds (Pause t s) = (0x51, t ∷ s ∷ [])
parts_in kinds (Unpause t s) = (0x52, t ∷ s ∷ [])
parts_in kinds (SetWindow t s w) = (0x53, t ∷ s ∷ w ∷ [])
parts_in kinds (SetRepaymentAccount t i s) = (0x54, t ∷ i ∷ s ∷ [])
parts_in kinds (SetBlacklisted t i k s) = (0x55, t ∷ i ∷ k ∷ s ∷ [])
parts_in kinds (SetSeats t s h x) = (0x56, t ∷ s ∷ h ∷ x ∷ [])

unfoldable pub parts_of : ℕ → Command → ℕ × List ℕ
parts_of e c = parts_in (keeps_terms e) c

-- in an array of nine
unfoldable pub padded : List ℕ → List ℕ
padded l = l ++ replicate (9 - length l) 0

abbrev pub sent : ℕ × List ℕ → ℕ × List ℕ
sent p = (p.0, padded p.1)
