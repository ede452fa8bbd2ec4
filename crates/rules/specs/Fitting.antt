-- Every accepted command leaves tables that fit: at most 64 rows each, ids that ascend
use Rattle.std.specs.Prelude.{ℕ, ◌≡◌, Bool}
use Rattle.std.proofs.Math.Bool.{true, false}
use Rattle.refusal.specs.Choice.{pick}
use Rattle.refusal.specs.Refusal.{first}
use Rattle.refusal.specs.RuleLaws.{both_pass}
use Rattle.table.specs.Tables.{Table}
use Rattle.table.specs.Keeping.{Fine}
use Rattle.table.proofs.Keeping.{fine_adjust, fine_insert}
use Rattle.account.specs.declared.Account as Accounts
use Rattle.invoice.specs.declared.Invoice.{Invoice}
use Rattle.offer.specs.declared.Deal.{Deal}
use Rattle.command.specs.Shape.{Shape, opens, account, registers, cancels, creates, offer, accepts, amends, counters, totals, settings}
use Rattle.rules.specs.Model.{Model, with_accounts, with_invoices, with_offers}
use Rattle.rules.specs.Rules.{gate_checks, settling, concluding, agreeing, ruled, shaped}
use Rattle.rules.specs.Rooms.{open_room, register_room, offer_room}

pub record Fits (m : Model) : Type 0 where
  pub accounts : Fine 64 m.accounts
  pub invoices : Fine 64 m.invoices
  pub offers : Fine 64 m.offers

module _ {m : Model} (f : Fits m) where
  fits_accounts : {t : Table Accounts.Account} → Fine 64 t → Fits (with_accounts t m)
  fits_accounts y = record { accounts = y; invoices = f.invoices; offers = f.offers }

  fits_invoices : {t : Table Invoice} → Fine 64 t → Fits (with_invoices t m)
  fits_invoices y = record { accounts = f.accounts; invoices = y; offers = f.offers }

  fits_offers : {t : Table Deal} → Fine 64 t → Fits (with_offers t m)
  fits_offers y = record { accounts = f.accounts; invoices = f.invoices; offers = y }

  pub fits_settled : (now o : ℕ) → Fits (settling now o m).done
  unfolding settling
  fits_settled now o = record {
    accounts = fine_adjust (fine_adjust (fine_adjust f.accounts _ _) _ _) _ _;
    invoices = fine_adjust f.invoices _ _;
    offers = fine_adjust f.offers _ _;
  }

  fits_agreed : (agreed : Bool) (now o : ℕ) → Fits (agreeing agreed now o m).done
  unfolding agreeing concluding pick
  fits_agreed true now o = fits_settled now o
  fits_agreed false now o = f

module _ {m : Model} (f : Fits m) where
  pub fits_ruled : (c : Shape) → first (ruled m c).checks ≡ 0 → Fits (ruled m c).done
  unfolding ruled
  fits_ruled (opens a) e = fits_accounts f (fine_insert f.accounts (open_room m a e) _)
  fits_ruled (account a u) e = fits_accounts f (fine_adjust f.accounts _ _)
  fits_ruled (registers a i x) e = fits_invoices f (fine_insert f.invoices (register_room m a i x e) _)
  fits_ruled (cancels a i) e = fits_invoices f (fine_adjust f.invoices _ _)
  fits_ruled (creates a o i t x) e = record { accounts = fine_adjust f.accounts _ _; invoices = f.invoices; offers = fine_insert f.offers (offer_room m a o i t x e) _ }
  fits_ruled (offer o u) e = fits_offers f (fine_adjust f.offers _ _)
  fits_ruled (accepts now a o) e = fits_settled f now o
  fits_ruled (amends now a o t n) e = fits_agreed (record { accounts = fine_adjust f.accounts _ _; invoices = f.invoices; offers = fine_adjust f.offers _ _ }) _ now o
  fits_ruled (counters now a o t n) e = fits_agreed (fits_offers f (fine_adjust f.offers _ _)) _ now o
  fits_ruled (totals a x y) e = record { accounts = f.accounts; invoices = f.invoices; offers = f.offers }
  fits_ruled (settings u) e = record { accounts = f.accounts; invoices = f.invoices; offers = f.offers }

  pub fits_kept : (c : Shape) → first (shaped m c).checks ≡ 0 → Fits (shaped m c).done
  fits_kept c e = fits_ruled c (both_pass (gate_checks m c) (ruled m c).checks e).1
