-- What the crates above need of invoice rows: which row is zero, and what keeps a row sound.
use Rattle.std.specs.Prelude.{ℕ, ◌≡◌, refl, true, leb, ℤ, pos}
use Rattle.std.proofs.Common.{eqb-true}
use Rattle.money.specs.Range.{in_amount}
use Rattle.money.specs.Facts.{both, zero_is}
use Rattle.invoice.specs.declared.Invoice.{Invoice}
use Rattle.invoice.specs.Invoice.{no_invoice, invoice_of, in_status, invoice_sound, invoice_zero}

zeros : {o s : ℕ} {a : ℤ} → o ≡ 0 → a ≡ pos 0 → s ≡ 0 → ◌≡◌ {A = Invoice} (record { originator = o; amount = a; status = s }) no_invoice
zeros e f g = cc

-- a zero row is the row of no invoice, and that one is zero
pub invoice_zero_lem : (r : Invoice) → invoice_zero r ≡ true → r ≡ no_invoice
unfolding invoice_zero
invoice_zero_lem r e =
    let b = both _ _ e in
    let a = both _ _ b.0 in
    zeros (eqb-true _ _ a.0) (zero_is _ a.1) (eqb-true _ _ b.1)

pub no_invoice_zero : invoice_zero no_invoice ≡ true
unfolding invoice_zero
no_invoice_zero = refl

-- a registered invoice is sound, and so is a sound one in another listed status
pub registered_sound : (a : ℕ) (x : ℤ) → in_amount x ≡ true → invoice_sound (invoice_of a x) ≡ true
unfolding invoice_sound
registered_sound a x h = rw h

pub status_sound : (s : ℕ) (r : Invoice) → leb s 2 ≡ true → invoice_sound r ≡ true → invoice_sound (in_status s r) ≡ true
unfolding invoice_sound
status_sound s r l h = let a = both (in_amount r.amount) (leb r.status 2) h in rw (a.0, l)
