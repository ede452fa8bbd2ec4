-- An invoice's row, what a sound book holds of it, and document 01's rules for it (module 5, "Port").
use Rattle.std.specs.Prelude.{ℕ, Bool, not, ◌&&◌, List, [], ◌∷◌, leb, eqb, ℤ, pos}
use Rattle.std.specs.Int.Signed.{le_z}
use Rattle.money.specs.Range.{in_amount, is_zero}
use Rattle.refusal.specs.Refusal.{Check, ◌gives◌, invalid_input, not_found, already_exists, unauthorized, invalid_transition, no_room}
use Rattle.refusal.specs.Rule.{Rule}
use Rattle.terms.specs.declared.Terms.{Terms}
use Rattle.invoice.specs.declared.Invoice.{Invoice}
use Rattle.table.specs.declared.Seen.{Seen}

-- status: 0 Pending, 1 Financed, 2 Cancelled
abbrev pub no_invoice : Invoice
no_invoice = record { originator = 0; amount = pos 0; status = 0 }

-- where an invoice stands
abbrev pub invoice_pending : ℕ
invoice_pending = 0

abbrev pub invoice_financed : ℕ
invoice_financed = 1

abbrev pub invoice_cancelled : ℕ
invoice_cancelled = 2

abbrev pub invoice_of : ℕ → ℤ → Invoice
invoice_of a x = record { originator = a; amount = x; status = invoice_pending }

abbrev pub in_status : ℕ → Invoice → Invoice
in_status s r = record { originator = r.originator; amount = r.amount; status = s }

abbrev pub financed : Invoice → Invoice
financed r = in_status invoice_financed r

abbrev pub covers : Invoice → Terms → Bool
covers r t = le_z t.amount r.amount

unfoldable pub invoice_sound : Invoice → Bool
invoice_sound r = in_amount r.amount && leb r.status invoice_cancelled

unfoldable pub invoice_zero : Invoice → Bool
invoice_zero r = (eqb r.originator 0 && is_zero r.amount) && eqb r.status 0

-- register invoice amount 3, 5, 12
abbrev pub register_checks : ℤ → Bool → Bool → List Check
register_checks x exists full = (not (in_amount x) gives invalid_input) ∷ (exists gives already_exists) ∷ (full gives no_room) ∷ []

-- cancel 4, not originator 6, not Pending 7
abbrev pub cancel_of : Seen Invoice → ℕ → Rule Invoice
cancel_of s caller = record {
  checks =
      (not s.here gives not_found)
      ∷ (not (eqb s.row.originator caller) gives unauthorized)
      ∷ (not (eqb s.row.status invoice_pending) gives invalid_transition)
      ∷ [];
  done = in_status invoice_cancelled s.row;
}
