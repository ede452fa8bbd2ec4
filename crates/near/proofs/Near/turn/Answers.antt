use Rattle.std.proofs.Common.{◌≡◌, sym, ap, ◌∙◌, leb, rules, to_z, of_z}
use Rattle.std.specs.Int.{w64}
use Rattle.std.proofs.lemmas.Result.{err_from_is_err_and}
use Rattle.std.specs.Prelude.{Some, None}
use Rattle.money.specs.Facts.{back}
use Rattle.rules.specs.Keys.{keys_by}
use Rattle.command.specs.Names.{account_names, offer_names, settings_names, names_for}
use Rattle.rules.specs.Rules.{account_rule, offer_rule, settings_rule, ruled}
use Rattle.command.specs.Shape.{shape_of}
use Rattle.near.specs.Gate.{gated, barred, on_it}
use Rattle.near.proofs.Near.turn.Goals as goal

pub returns-in_err-gate : goal.returns-in_err-gate
returns-in_err-gate c = λ m f e. let p = err_from_is_err_and c.from_residual.result c.from_residual.ensures.1 in rw (p.1, p.2) (barred c.args.c (sym c.gate.ensures ∙ c.in_err-gate.was) m f e)

pub returns-in-OpenAccount : goal.returns-in-OpenAccount
unfolding shape_of account_names offer_names settings_names names_for account_rule offer_rule settings_rule ruled
returns-in-OpenAccount c = gated c.args.c (sym c.gate.ensures ∙ c.in_ok-gate.was) (on_it _ c.in-OpenAccount.is (λ m f. c.opened.ensures c.in-OpenAccount.caller None None None m (ap (λ z. leb 64 z.accounts) f)))

pub returns-in-Deposit : goal.returns-in-Deposit
unfolding shape_of account_names offer_names settings_names names_for account_rule offer_rule settings_rule ruled
returns-in-Deposit c = gated c.args.c (sym c.gate.ensures ∙ c.in_ok-gate.was) (on_it _ c.in-Deposit.is (λ m f. simp (back c.in-Deposit.amount (search rules)) at (c.deposited.ensures c.in-Deposit.caller None None None m)))

pub returns-in-Payout : goal.returns-in-Payout
unfolding shape_of account_names offer_names settings_names names_for account_rule offer_rule settings_rule ruled
returns-in-Payout c = gated c.args.c (sym c.gate.ensures ∙ c.in_ok-gate.was) (on_it _ c.in-Payout.is (λ m f. simp (back c.in-Payout.amount (search rules)) at (c.paid_out.ensures c.in-Payout.caller None None None m)))

pub returns-in-Approve : goal.returns-in-Approve
unfolding shape_of account_names offer_names settings_names names_for account_rule offer_rule settings_rule ruled
returns-in-Approve c = gated c.args.c (sym c.gate.ensures ∙ c.in_ok-gate.was) (on_it _ c.in-Approve.is (λ m f. simp (back c.in-Approve.amount (search rules)) at (c.approved.ensures c.in-Approve.caller None None None m)))

pub returns-in-RegisterInvoice : goal.returns-in-RegisterInvoice
unfolding shape_of account_names offer_names settings_names names_for account_rule offer_rule settings_rule ruled
returns-in-RegisterInvoice c = gated c.args.c (sym c.gate.ensures ∙ c.in_ok-gate.was) (on_it _ c.in-RegisterInvoice.is (λ m f. let b : to_z w64 (of_z w64 c.in-RegisterInvoice.amount) ≡ c.in-RegisterInvoice.amount = back c.in-RegisterInvoice.amount (search rules) in simp b at (c.registered.ensures c.in-RegisterInvoice.id (Some c.in-RegisterInvoice.caller) None None m (ap (λ z. leb 64 z.invoices) f))))

pub returns-in-CancelInvoice : goal.returns-in-CancelInvoice
unfolding shape_of account_names offer_names settings_names names_for account_rule offer_rule settings_rule ruled
returns-in-CancelInvoice c = gated c.args.c (sym c.gate.ensures ∙ c.in_ok-gate.was) (on_it _ c.in-CancelInvoice.is (λ m f. c.cancelled.ensures c.in-CancelInvoice.id (Some c.in-CancelInvoice.caller) None None m))

pub returns-in-CreateOffer : goal.returns-in-CreateOffer
unfolding shape_of account_names offer_names settings_names names_for account_rule offer_rule settings_rule ruled
returns-in-CreateOffer c = gated c.args.c (sym c.gate.ensures ∙ c.in_ok-gate.was) (on_it _ c.in-CreateOffer.is (λ m f. c.created.ensures c.in-CreateOffer.id None m (ap (λ z. leb 64 z.offers) f)))

pub returns-in-WithdrawOffer : goal.returns-in-WithdrawOffer
unfolding shape_of account_names offer_names settings_names names_for account_rule offer_rule settings_rule ruled
returns-in-WithdrawOffer c = gated c.args.c (sym c.gate.ensures ∙ c.in_ok-gate.was) (on_it _ c.in-WithdrawOffer.is (λ m f. c.withdrawn.ensures c.in-WithdrawOffer.id (Some c.in-WithdrawOffer.caller) None m))

pub returns-in-AcceptOffer : goal.returns-in-AcceptOffer
unfolding shape_of account_names offer_names settings_names names_for account_rule offer_rule settings_rule ruled
returns-in-AcceptOffer c = gated c.args.c (sym c.gate.ensures ∙ c.in_ok-gate.was) (on_it _ c.in-AcceptOffer.is (λ m f. c.accepted.ensures c.in-AcceptOffer.id m))

pub returns-in-RejectOffer : goal.returns-in-RejectOffer
unfolding shape_of account_names offer_names settings_names names_for account_rule offer_rule settings_rule ruled
returns-in-RejectOffer c = gated c.args.c (sym c.gate.ensures ∙ c.in_ok-gate.was) (on_it _ c.in-RejectOffer.is (λ m f. c.rejected.ensures c.in-RejectOffer.id (Some c.in-RejectOffer.caller) None m))

pub returns-in-AmendOffer : goal.returns-in-AmendOffer
unfolding shape_of account_names offer_names settings_names names_for account_rule offer_rule settings_rule ruled
returns-in-AmendOffer c = gated c.args.c (sym c.gate.ensures ∙ c.in_ok-gate.was) (on_it _ c.in-AmendOffer.is (λ m f. c.amended.ensures c.in-AmendOffer.id m))

pub returns-in-CounterOffer : goal.returns-in-CounterOffer
unfolding shape_of account_names offer_names settings_names names_for account_rule offer_rule settings_rule ruled
returns-in-CounterOffer c = gated c.args.c (sym c.gate.ensures ∙ c.in_ok-gate.was) (on_it _ c.in-CounterOffer.is (λ m f. c.countered.ensures c.in-CounterOffer.id m))

pub returns-in-CloseNegotiation : goal.returns-in-CloseNegotiation
unfolding shape_of account_names offer_names settings_names names_for account_rule offer_rule settings_rule ruled
returns-in-CloseNegotiation c = gated c.args.c (sym c.gate.ensures ∙ c.in_ok-gate.was) (on_it _ c.in-CloseNegotiation.is (λ m f. c.closed.ensures c.in-CloseNegotiation.id (Some c.in-CloseNegotiation.caller) None m))

pub returns-in-ScheduleRepayment : goal.returns-in-ScheduleRepayment
unfolding shape_of account_names offer_names settings_names names_for account_rule offer_rule settings_rule ruled
returns-in-ScheduleRepayment c = gated c.args.c (sym c.gate.ensures ∙ c.in_ok-gate.was) (on_it _ c.in-ScheduleRepayment.is (λ m f. c.scheduled.ensures c.in-ScheduleRepayment.id (Some c.in-ScheduleRepayment.caller) None m))

pub returns-in-UpdateStatus : goal.returns-in-UpdateStatus
unfolding shape_of account_names offer_names settings_names names_for account_rule offer_rule settings_rule ruled
returns-in-UpdateStatus c = gated c.args.c (sym c.gate.ensures ∙ c.in_ok-gate.was) (on_it _ c.in-UpdateStatus.is (λ m f. c.status_updated.ensures c.in-UpdateStatus.id (Some c.in-UpdateStatus.caller) None m))

pub returns-in-UpdateRepaid : goal.returns-in-UpdateRepaid
unfolding shape_of account_names offer_names settings_names names_for account_rule offer_rule settings_rule ruled
returns-in-UpdateRepaid c = gated c.args.c (sym c.gate.ensures ∙ c.in_ok-gate.was) (on_it _ c.in-UpdateRepaid.is (λ m f. simp (back c.in-UpdateRepaid.amount (search rules)) at (c.repaid_updated.ensures c.in-UpdateRepaid.id (Some c.in-UpdateRepaid.caller) None m)))

pub returns-in-UpdateLenderRepaid : goal.returns-in-UpdateLenderRepaid
unfolding shape_of account_names offer_names settings_names names_for account_rule offer_rule settings_rule ruled
returns-in-UpdateLenderRepaid c = gated c.args.c (sym c.gate.ensures ∙ c.in_ok-gate.was) (on_it _ c.in-UpdateLenderRepaid.is (λ m f. c.lender_repaid.ensures c.in-UpdateLenderRepaid.id (Some c.in-UpdateLenderRepaid.caller) None None m))

pub returns-in-UpdateTotalsRepaid : goal.returns-in-UpdateTotalsRepaid
unfolding shape_of account_names offer_names settings_names names_for account_rule offer_rule settings_rule ruled
returns-in-UpdateTotalsRepaid c = gated c.args.c (sym c.gate.ensures ∙ c.in_ok-gate.was) (on_it _ c.in-UpdateTotalsRepaid.is (λ m f. simp (back c.in-UpdateTotalsRepaid.amount (search rules), back c.in-UpdateTotalsRepaid.fee (search rules)) at (c.totals_repaid.ensures (keys_by (Some c.in-UpdateTotalsRepaid.caller) None None None) m)))

pub returns-in-Pause : goal.returns-in-Pause
unfolding shape_of account_names offer_names settings_names names_for account_rule offer_rule settings_rule ruled
returns-in-Pause c = gated c.args.c (sym c.gate.ensures ∙ c.in_ok-gate.was) (on_it _ c.in-Pause.is (λ m f. c.pause_set.ensures (keys_by None None None None) m))

pub returns-in-Unpause : goal.returns-in-Unpause
unfolding shape_of account_names offer_names settings_names names_for account_rule offer_rule settings_rule ruled
returns-in-Unpause c = gated c.args.c (sym c.gate.ensures ∙ c.in_ok-gate.was) (on_it _ c.in-Unpause.is (λ m f. c.pause_set-in-Unpause.ensures (keys_by None None None None) m))

pub returns-in-SetWindow : goal.returns-in-SetWindow
unfolding shape_of account_names offer_names settings_names names_for account_rule offer_rule settings_rule ruled
returns-in-SetWindow c = gated c.args.c (sym c.gate.ensures ∙ c.in_ok-gate.was) (on_it _ c.in-SetWindow.is (λ m f. c.window_set.ensures (keys_by None None None None) m))

pub returns-in-SetRepaymentAccount : goal.returns-in-SetRepaymentAccount
unfolding shape_of account_names offer_names settings_names names_for account_rule offer_rule settings_rule ruled
returns-in-SetRepaymentAccount c = gated c.args.c (sym c.gate.ensures ∙ c.in_ok-gate.was) (on_it _ c.in-SetRepaymentAccount.is (λ m f. c.repayer_set.ensures None None None m))

pub returns-in-SetBlacklisted : goal.returns-in-SetBlacklisted
unfolding shape_of account_names offer_names settings_names names_for account_rule offer_rule settings_rule ruled
returns-in-SetBlacklisted c = gated c.args.c (sym c.gate.ensures ∙ c.in_ok-gate.was) (on_it _ c.in-SetBlacklisted.is (λ m f. c.blacklisted.ensures c.in-SetBlacklisted.id None None None m))

pub returns-in-SetSeats : goal.returns-in-SetSeats
unfolding shape_of account_names offer_names settings_names names_for account_rule offer_rule settings_rule ruled
returns-in-SetSeats c = gated c.args.c (sym c.gate.ensures ∙ c.in_ok-gate.was) (on_it _ c.in-SetSeats.is (λ m f. c.seats_set.ensures (keys_by None None None None) m))
