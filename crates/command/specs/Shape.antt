-- The commands by what they are about: one row of a table, the totals or the settings, or one of the few that touch more.
use Rattle.std.specs.Prelude.{ℕ, Bool, true, false, ℤ}
use Rattle.terms.specs.declared.Terms.{Terms}
use Rattle.command.specs.declared.Command.{Command}
use Rattle.command.specs.declared.Command.TheVariants.{OpenAccount, Deposit, Payout, Approve, RegisterInvoice, CancelInvoice, CreateOffer, WithdrawOffer, AcceptOffer, RejectOffer, AmendOffer, CounterOffer, CloseNegotiation, ScheduleRepayment, UpdateStatus, UpdateRepaid, UpdateLenderRepaid, UpdateTotalsRepaid, Pause, Unpause, SetWindow, SetRepaymentAccount, SetBlacklisted, SetSeats}

-- on one account: its caller's own, or one that repayment or an admin names
pub data OnAccount : Type 0 where
  deposits pays approves : ℤ → OnAccount
  lender_repaid : (caller flag : ℕ) → OnAccount
  blacklists : (seats code : ℕ) → OnAccount

-- on one offer
pub data OnOffer : Type 0 where
  withdraws rejects : (caller : ℕ) → OnOffer
  closes : (now caller : ℕ) → OnOffer
  schedules : (now caller count code first kind : ℕ) → OnOffer
  marks : (caller code : ℕ) → OnOffer
  repaid : (caller : ℕ) → ℤ → OnOffer

-- on the settings
pub data OnSettings : Type 0 where
  pauses : (seats : ℕ) → Bool → OnSettings
  waits : (seats window : ℕ) → OnSettings
  appoints : (seats account : ℕ) → OnSettings
  seats : (seats threshold fresh : ℕ) → OnSettings

pub data Shape : Type 0 where
  opens : (caller : ℕ) → Shape
  account : (id : ℕ) → OnAccount → Shape
  registers : (caller invoice : ℕ) → ℤ → Shape
  cancels : (caller invoice : ℕ) → Shape
  creates : (caller offer invoice : ℕ) → Terms → (expires : ℕ) → Shape
  offer : (id : ℕ) → OnOffer → Shape
  accepts : (now caller offer : ℕ) → Shape
  amends counters : (now caller offer : ℕ) → Terms → (round : ℕ) → Shape
  totals : (caller : ℕ) → ℤ → ℤ → Shape
  settings : OnSettings → Shape

unfoldable pub shape_of : Command → Shape
shape_of (OpenAccount now a) = opens a
shape_of (Deposit now a x) = account a (deposits x)
shape_of (Payout now a x) = account a (pays x)
shape_of (Approve now a x) = account a (approves x)
shape_of (RegisterInvoice now a i x) = registers a i x
shape_of (CancelInvoice now a i) = cancels a i
shape_of (CreateOffer now a o i t e) = creates a o i t e
shape_of (WithdrawOffer now a o) = offer o (withdraws a)
shape_of (AcceptOffer now a o) = accepts now a o
shape_of (RejectOffer now a o) = offer o (rejects a)
shape_of (AmendOffer now a o t n) = amends now a o t n
shape_of (CounterOffer now a o t n) = counters now a o t n
shape_of (CloseNegotiation now a o) = offer o (closes now a)
shape_of (ScheduleRepayment now a o n c d k) = offer o (schedules now a n c d k)
shape_of (UpdateStatus now a o c) = offer o (marks a c)
shape_of (UpdateRepaid now a o x) = offer o (repaid a x)
shape_of (UpdateLenderRepaid now a l f) = account l (lender_repaid a f)
shape_of (UpdateTotalsRepaid now a x f) = totals a x f
shape_of (Pause now p) = settings (pauses p true)
shape_of (Unpause now p) = settings (pauses p false)
shape_of (SetWindow now p w) = settings (waits p w)
shape_of (SetRepaymentAccount now i p) = settings (appoints p i)
shape_of (SetBlacklisted now i c p) = account i (blacklists p c)
shape_of (SetSeats now p h q) = settings (seats p h q)
