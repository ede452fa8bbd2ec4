-- What a settlement returns at its keys: the refusal of the transfer, of the financed total, or what both leave
use Rattle.std.specs.Prelude.{ℕ, ◌≡◌, Bool, Result, Ok, Err}
use Rattle.std.proofs.Common.{sym, ap, ◌∙◌}
use Rattle.refusal.specs.declared.Refusal.{Refusal}
use Rattle.refusal.specs.Choice.{pick}
use Rattle.refusal.specs.Rule.{Rule, outcome, on_done}
use Rattle.refusal.specs.Returned.{verdict_done}
use Rattle.table.specs.Tables.{Table}
use Rattle.account.specs.declared.Account.{Account}
use Rattle.invoice.specs.Invoice.{financed}
use Rattle.invoice.specs.Seen.{put_invoice}
use Rattle.offer.specs.Offer.{settled_deal}
use Rattle.offer.specs.Seen.{put_deal}
use Rattle.totals.specs.declared.Totals.{Totals}
use Rattle.totals.specs.Totals.{finance_of}
use Rattle.parties.specs.Settlement.{settle_accounts}
use Rattle.parties.specs.Parties.{parties_of}
use Rattle.parties.specs.declared.Parties.{Parties}
use Rattle.rules.specs.Model.{Model}
use Rattle.rules.specs.Rules.{settling, lender_of, originator_of, terms_in}
use Rattle.near.specs.declared.Near.{Near}
use Rattle.near.specs.Near.{view_of, turn_of, sides_of}
use Rattle.near.specs.Returns.{done_by, refused_by, other_ok, other_err, append_err, append_go}
use Rattle.near.specs.Sides.{settled_view}
use Rattle.near.specs.Steps.{near_by}

module _ (lends : Bool) (m : Model) (o now : ℕ) where
  -- the transfer, and the rows seen of the accounts after it
  abbrev pub paying : Rule (Table Account)
  paying = settle_accounts m.accounts (lender_of m o) (originator_of m o) (terms_in m o)

  abbrev pub seen_paid : Table Account → Parties
  seen_paid t = parties_of (pick lends (lender_of m o) (originator_of m o)) (pick lends (originator_of m o) (lender_of m o)) t

  abbrev pub financing : Rule Totals
  financing = finance_of m.totals (terms_in m o)

  pub unpaid : {r : Refusal} → Err r ≡ on_done seen_paid (outcome paying) → Err r ≡ turn_of (sides_of lends m o) (settling now o m)
  unfolding settling
  unpaid h = sym (ap (on_done (view_of (sides_of lends m o))) (append_err paying.checks financing.checks paying.done (settling now o m).done (refused_by seen_paid (outcome paying) h)))

  pub unfinanced : {x : Parties} {r : Refusal} → Ok x ≡ on_done seen_paid (outcome paying) → Err r ≡ outcome financing → Err r ≡ turn_of (sides_of lends m o) (settling now o m)
  unfolding settling
  unfinanced h q = sym (ap (on_done (view_of (sides_of lends m o))) (
      append_go paying.checks financing.checks paying.done (settling now o m).done (done_by seen_paid (outcome paying) h).1
      ∙ other_err financing.checks financing.done (settling now o m).done (sym q)))

  pub settled : {n : Near} {x : Parties} {y : Totals} → n ≡ view_of (sides_of lends m o) m → Ok x ≡ on_done seen_paid (outcome paying) → Ok y ≡ outcome financing
      → Ok (near_by x (put_invoice n.paper (financed n.paper.row)) (put_deal n.deal (settled_deal now n.deal.row)) y n.settings) ≡ turn_of (sides_of lends m o) (settling now o m)
  unfolding settling
  settled {n} {x} {y} e h q =
      let d = done_by seen_paid (outcome paying) h in
      ap (λ z. Ok (near_by x (put_invoice n.paper (financed n.paper.row)) (put_deal n.deal (settled_deal now n.deal.row)) z n.settings)) (verdict_done financing.checks (sym q))
      ∙ ap (λ z. Ok z) (settled_view lends m o now e paying.done financing.done (d.2 ∙ ap seen_paid (verdict_done paying.checks d.1)))
      ∙ sym (ap (on_done (view_of (sides_of lends m o))) (
      append_go paying.checks financing.checks paying.done (settling now o m).done d.1
      ∙ other_ok financing.checks financing.done (settling now o m).done (sym q)))
