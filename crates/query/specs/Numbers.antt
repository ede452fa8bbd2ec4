-- What the rows say in 64-bit numbers, amounts in two's complement
use Rattle.std.specs.Prelude.{ℕ, Bool, true, false}
use Rattle.refusal.specs.Choice.{pick}
use Rattle.money.specs.Range.{bits_of}
use Rattle.edition.specs.Edition.{keeps_terms}
use Rattle.terms.specs.Schedule.{schedule_zero}
use Rattle.terms.specs.Due.{due_of}
use Rattle.terms.specs.declared.Schedule.{Schedule}
use Rattle.account.specs.declared.Account.{Account}
use Rattle.offer.specs.declared.Deal.{Deal}
use Rattle.totals.specs.declared.Totals.{Totals}
use Rattle.shelves.specs.declared.Offers.{Offers}
use Rattle.lists.specs.declared.OfferRows.{OfferRows}
use Rattle.query.specs.declared.ScheduleNumbers.{ScheduleNumbers}
use Rattle.query.specs.declared.LenderNumbers.{LenderNumbers}
use Rattle.query.specs.declared.TotalsNumbers.{TotalsNumbers}

abbrev pub offers_only : Offers → OfferRows
offers_only t = record { ids = t.ids; rows = t.rows; count = t.count }

abbrev pub schedule_numbers : Schedule → ScheduleNumbers
schedule_numbers s = record { count = s.count; code = s.code; installment = bits_of s.installment; first = s.first; kind = s.kind }

abbrev pub lender_numbers : Account → LenderNumbers
lender_numbers a = record { offered = bits_of a.purse.offered; accepted = bits_of a.purse.accepted; pending = a.pending; repaid = a.repaid }

abbrev pub totals_numbers : Totals → TotalsNumbers
totals_numbers t = record { offers = t.offers; financed = bits_of t.financed; repaid = bits_of t.repaid; fees = bits_of t.fees }

-- `get_installment_due`: 0 and 0 with no schedule, else what module 1 gives, by the book's edition (on a sound row never its 3: due-number, specs/Held.antt)
unfoldable pub due_in : ℕ → Deal → ℕ → ℕ × ℕ
due_in e d now = pick (schedule_zero d.schedule) (0, 0) (due_of (keeps_terms e) d.schedule d.offer.status d.offer.repaid now).1

abbrev pub flag : Bool → ℕ
flag true = 1
flag false = 0
