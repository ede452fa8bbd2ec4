-- What a sound book's model is: tables that fit, every row sound, totals and settings in range
use Rattle.std.specs.Prelude.{ℕ, ◌≡◌, refl, true}
use Rattle.std.proofs.Common.{arith}
use Rattle.table.specs.Tables.{Found, absent, here, Table, find, adjust, keys}
use Rattle.table.proofs.TableLaws.{adjust_absent}
use Rattle.table.specs.Sound.{All}
use Rattle.table.proofs.Sound.{all_found, all_adjust}
use Rattle.account.specs.Account.{account_sound}
use Rattle.invoice.specs.Invoice.{invoice_sound}
use Rattle.offer.specs.Laws.{DealKept}
use Rattle.settings.specs.Settings.{settings_sound}
use Rattle.totals.specs.Totals.{totals_sound}
use Rattle.edition.specs.Edition.{listed}
use Rattle.settings.specs.Laws.{fresh_sound}
use Rattle.totals.specs.Laws.{no_totals_sound}
use Rattle.rules.specs.Model.{Model, fresh_model}
use Rattle.rules.specs.Fitting.{Fits}

pub record ModelSound (m : Model) : Type 0 where
  pub fits : Fits m
  pub accounts : All (λ r. account_sound r ≡ true) m.accounts
  pub invoices : All (λ r. invoice_sound r ≡ true) m.invoices
  pub offers : All (DealKept m.settings.edition) m.offers
  pub totals : totals_sound m.totals ≡ true
  pub settings : settings_sound m.settings ≡ true

pub fresh_model_lem : (e : ℕ) → listed e ≡ true → ModelSound (fresh_model e)
unfolding keys
fresh_model_lem e l = record {
  fits = record {
    accounts = record { fits = omega arith; rises = tt };
    invoices = record { fits = omega arith; rises = tt };
    offers = record { fits = omega arith; rises = tt };
  };
  accounts = tt;
  invoices = tt;
  offers = tt;
  totals = no_totals_sound;
  settings = fresh_sound e l;
}

-- a row put anew, which is sound if the row that was seen is
module _ {A : Type 0} (q : A → Type 0) (g : Found A → A) (h : (r : A) → g (here r) ≡ r) (t : Table A) (i : ℕ) where
  pub put_sound : (x : A) → All q t → (q (g (find t i)) → q x) → All q (adjust t i (λ old. x))
  put_sound x a k = go (find t i) refl
    where
      go : (o : Found A) → find t i ≡ o → All q (adjust t i (λ old. x))
      go absent e = rw (adjust_absent t i (λ old. x) e) a
      go (here r) e = all_adjust q t i (λ old. x) r a e (k (rw (e, h r) (all_found q t i r a e)))
