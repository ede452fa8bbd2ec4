use Rattle.std.proofs.Common.{◌≡◌, sym, ap, ◌∙◌}
use Rattle.std.proofs.lemmas.Result.{err_from_is_err_and}
use Rattle.std.specs.Prelude.{Some, Ok, ◌++◌}
use Rattle.refusal.specs.Rule.{on_done}
use Rattle.refusal.specs.Returned.{verdict_first, verdict_done}
use Rattle.account.specs.Rules.{offer_of}
use Rattle.offer.specs.Rules.{create_checks}
use Rattle.table.specs.Tables.{full}
use Rattle.totals.specs.Totals.{count_of}
use Rattle.rules.specs.Keys.{keys_by}
use Rattle.rules.specs.Model.{account_in, invoice_in, offer_in}
use Rattle.rules.specs.Rooms.{offer_room}
use Rattle.rules.specs.Rules.{creating}
use Rattle.near.specs.Near.{view_of}
use Rattle.near.specs.Returns.{append_err, append_go, other_err, other_ok}
use Rattle.near.specs.Steps.{created_step}
use Rattle.near.proofs.Near.created.Goals as goal

pub returns-in_err-create_checks : goal.returns-in_err-create_checks
returns-in_err-create_checks c = λ o b m f e.
    let k = keys_by (Some c.args.caller) b (Some c.args.paper) (Some o) in
    let ks = create_checks c.args.caller (account_in m c.args.caller).row c.args.t (invoice_in m c.args.paper) (offer_in m o).here (full 64 m.offers) in
    let u = offer_of (account_in m c.args.caller).row c.args.t in
    let v = count_of m.totals in
    let w = creating m c.args.caller o c.args.paper c.args.t c.args.expires in
    let h = sym (simp (f, e) at c.create_checks.ensures) ∙ c.in_err-create_checks.was in
    let p = err_from_is_err_and c.from_residual.result c.from_residual.ensures.1 in
    rw (p.1, p.2) (sym (ap (on_done (view_of k)) (append_err ks (u.checks ++ v.checks) tt w.done h)))

pub returns-in_err-row : goal.returns-in_err-row
returns-in_err-row c = λ o b m f e.
    let k = keys_by (Some c.args.caller) b (Some c.args.paper) (Some o) in
    let ks = create_checks c.args.caller (account_in m c.args.caller).row c.args.t (invoice_in m c.args.paper) (offer_in m o).here (full 64 m.offers) in
    let u = offer_of (account_in m c.args.caller).row c.args.t in
    let v = count_of m.totals in
    let w = creating m c.args.caller o c.args.paper c.args.t c.args.expires in
    let h = sym (simp (f, e) at c.create_checks.ensures) ∙ c.in_ok-create_checks.was in
    let i = sym (simp e at c.offer.ensures) ∙ c.in_err-row.was in
    let p = err_from_is_err_and c.from_residual-in_err-row.result c.from_residual-in_err-row.ensures.1 in
    rw (p.1, p.2) (sym (ap (on_done (view_of k)) (append_go ks (u.checks ++ v.checks) tt w.done h ∙ append_err u.checks v.checks u.done w.done i)))

pub returns-in_err-totals : goal.returns-in_err-totals
returns-in_err-totals c = λ o b m f e.
    let k = keys_by (Some c.args.caller) b (Some c.args.paper) (Some o) in
    let ks = create_checks c.args.caller (account_in m c.args.caller).row c.args.t (invoice_in m c.args.paper) (offer_in m o).here (full 64 m.offers) in
    let u = offer_of (account_in m c.args.caller).row c.args.t in
    let v = count_of m.totals in
    let w = creating m c.args.caller o c.args.paper c.args.t c.args.expires in
    let h = sym (simp (f, e) at c.create_checks.ensures) ∙ c.in_ok-create_checks.was in
    let i = sym (simp e at c.offer.ensures) ∙ c.in_ok-row.was in
    let j = sym (simp e at c.count.ensures) ∙ c.in_err-totals.was in
    let p = err_from_is_err_and c.from_residual-in_err-totals.result c.from_residual-in_err-totals.ensures.1 in
    rw (p.1, p.2) (sym (ap (on_done (view_of k)) (append_go ks (u.checks ++ v.checks) tt w.done h ∙ append_go u.checks v.checks u.done w.done i ∙ other_err v.checks v.done w.done j)))

pub returns : goal.returns
returns c = λ o b m f e.
    let k = keys_by (Some c.args.caller) b (Some c.args.paper) (Some o) in
    let ks = create_checks c.args.caller (account_in m c.args.caller).row c.args.t (invoice_in m c.args.paper) (offer_in m o).here (full 64 m.offers) in
    let u = offer_of (account_in m c.args.caller).row c.args.t in
    let v = count_of m.totals in
    let w = creating m c.args.caller o c.args.paper c.args.t c.args.expires in
    let h = sym (simp (f, e) at c.create_checks.ensures) ∙ c.in_ok-create_checks.was in
    let i = sym (simp e at c.offer.ensures) ∙ c.in_ok-row.was in
    let j = sym (simp e at c.count.ensures) ∙ c.in_ok-totals.was in
    let d = append_go ks (u.checks ++ v.checks) tt w.done h ∙ append_go u.checks v.checks u.done w.done i ∙ other_ok v.checks v.done w.done j in
    rw (c.put_first.ensures, c.new.ensures, verdict_done u.checks i, verdict_done v.checks j)
    (ap (λ z. Ok z) (created_step m c.args.caller o b (Some c.args.paper) e (offer_room m c.args.caller o c.args.paper c.args.t c.args.expires (verdict_first w.checks w.done d)).new _ _ _)
    ∙ sym (ap (on_done (view_of k)) d))
