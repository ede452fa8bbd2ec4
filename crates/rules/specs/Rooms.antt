-- A row that a command lets in has room
use Rattle.std.specs.Prelude.{ℕ, ◌≡◌, refl, false, ℤ, length}
use Rattle.std.proofs.Common.{leb-false}
use Rattle.refusal.specs.Refusal.{first}
use Rattle.refusal.specs.RuleLaws.{passed}
use Rattle.table.specs.Tables.{Found, absent, here, Table, find, full, Room}
use Rattle.terms.specs.declared.Terms.{Terms}
use Rattle.account.specs.declared.Account.{Account}
use Rattle.account.specs.Seen.{seen_account}
use Rattle.invoice.specs.declared.Invoice.{Invoice}
use Rattle.invoice.specs.Seen.{seen_invoice}
use Rattle.offer.specs.declared.Deal.{Deal}
use Rattle.offer.specs.Seen.{seen_deal}
use Rattle.rules.specs.Model.{Model}
use Rattle.rules.specs.Rules.{opening, registering, creating}

-- a row that is not seen is absent
pub unseen_account : (o : Found Account) → (seen_account o).here ≡ false → o ≡ absent
unseen_account absent e = refl
unseen_account (here r) e = cc

pub unseen_invoice : (o : Found Invoice) → (seen_invoice o).here ≡ false → o ≡ absent
unseen_invoice absent e = refl
unseen_invoice (here r) e = cc

pub unseen_deal : (o : Found Deal) → (seen_deal o).here ≡ false → o ≡ absent
unseen_deal absent e = refl
unseen_deal (here r) e = cc

pub has_room : {A : Type 0} (t : Table A) (i : ℕ) → full 64 t ≡ false → find t i ≡ absent → Room 64 t i
has_room t i f e = record { small = leb-false 64 (length t) f; new = e }

pub open_room : (m : Model) (a : ℕ) → first (opening m a).checks ≡ 0 → Room 64 m.accounts a
open_room m a h =
    let p = passed _ _ _ h in
    let q = passed _ _ _ p.1 in
    has_room m.accounts a q.0 (unseen_account (find m.accounts a) p.0)

pub register_room : (m : Model) (a i : ℕ) (x : ℤ) → first (registering m a i x).checks ≡ 0 → Room 64 m.invoices i
register_room m a i x h =
    let p = passed _ _ _ (passed _ _ _ h).1 in
    let q = passed _ _ _ p.1 in
    has_room m.invoices i q.0 (unseen_invoice (find m.invoices i) p.0)

pub offer_room : (m : Model) (a o i : ℕ) (t : Terms) (e : ℕ) → first (creating m a o i t e).checks ≡ 0 → Room 64 m.offers o
offer_room m a o i t e h =
    let p = passed _ _ _ (passed _ _ _ (passed _ _ _ (passed _ _ _ (passed _ _ _ (passed _ _ _ h).1).1).1).1).1 in
    let q = passed _ _ _ p.1 in
    let r = passed _ _ _ q.1 in
    has_room m.offers o r.0 (unseen_deal (find m.offers o) q.0)
