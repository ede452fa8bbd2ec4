use Rattle.std.proofs.Common.{◌≡◌, sym, ap, ◌∙◌}
use Rattle.std.proofs.lemmas.Result.{err_from_is_err_and}
use Rattle.std.specs.Prelude.{Some, Ok, ◌++◌}
use Rattle.refusal.specs.Rule.{on_done, outcome}
use Rattle.refusal.specs.Returned.{verdict_first, verdict_done}
use Rattle.account.specs.Rules.{reoffer_of}
use Rattle.negotiation.specs.Rounds.{round_slots, agrees_of}
use Rattle.rules.specs.Agreeing.{agrees_on, agrees_off}
use Rattle.rules.specs.Model.{account_in, offer_in}
use Rattle.rules.specs.Rules.{amends_in, originator_of, terms_in, with_lender_round, amended_in, agreeing, concluding}
use Rattle.near.specs.Near.{view_of, deal_keys}
use Rattle.near.specs.Returns.{append_err, append_go, other_err, other_ok, next_err, next_go}
use Rattle.near.specs.Sides.{turn_at, view_at, amend_keys}
use Rattle.near.proofs.Near.amended.Goals as goal

pub returns-in_err-amend_checks : goal.returns-in_err-amend_checks
returns-in_err-amend_checks c = λ o m e.
    let ks = amends_in m c.args.now c.args.caller o c.args.t c.args.round in
    let u = reoffer_of (account_in m c.args.caller).row (terms_in m o) c.args.t in
    let w = amended_in m c.args.now c.args.caller o c.args.t in
    let h = sym (simp e at c.amend_checks.ensures) ∙ c.in_err-amend_checks.was in
    let p = err_from_is_err_and c.from_residual.result c.from_residual.ensures.1 in
    rw (p.1, p.2) (sym (ap (on_done (view_of (deal_keys (Some c.args.caller) (Some (originator_of m o)) m o)))
    (next_err (record { checks = ks ++ u.checks; done = w }) (agreeing (agrees_of round_slots (offer_in m o).row.negotiation c.args.t) c.args.now o) (append_err ks u.checks tt w h))))

pub returns-in_err-row : goal.returns-in_err-row
returns-in_err-row c = λ o m e.
    let ks = amends_in m c.args.now c.args.caller o c.args.t c.args.round in
    let u = reoffer_of (account_in m c.args.caller).row (terms_in m o) c.args.t in
    let w = amended_in m c.args.now c.args.caller o c.args.t in
    let h = sym (simp e at c.amend_checks.ensures) ∙ c.in_ok-amend_checks.was in
    let i = sym (simp e at c.reoffer.ensures) ∙ c.in_err-row.was in
    let p = err_from_is_err_and c.from_residual-in_err-row.result c.from_residual-in_err-row.ensures.1 in
    rw (p.1, p.2) (sym (ap (on_done (view_of (deal_keys (Some c.args.caller) (Some (originator_of m o)) m o)))
    (next_err (record { checks = ks ++ u.checks; done = w }) (agreeing (agrees_of round_slots (offer_in m o).row.negotiation c.args.t) c.args.now o) (append_go ks u.checks tt w h ∙ other_err u.checks u.done w i))))

pub returns-then-not-agrees : goal.returns-then-not-agrees
returns-then-not-agrees c = λ o m e.
    let ks = amends_in m c.args.now c.args.caller o c.args.t c.args.round in
    let u = reoffer_of (account_in m c.args.caller).row (terms_in m o) c.args.t in
    let w = amended_in m c.args.now c.args.caller o c.args.t in
    let k = deal_keys (Some c.args.caller) (Some (originator_of m o)) m o in
    let h = sym (simp e at c.amend_checks.ensures) ∙ c.in_ok-amend_checks.was in
    let i = sym (simp e at c.reoffer.ensures) ∙ c.in_ok-row.was in
    let there = c.with_amendment-mid.ensures c.args.caller o (Some (originator_of m o)) (Some (offer_in m o).row.offer.invoice) m e ∙ ap (λ r. view_of k (with_lender_round m c.args.now c.args.caller o r c.args.t)) (verdict_done u.checks i) in
    let off = agrees_off c.args.now o w (sym (simp e at c.agrees.ensures) ∙ c.if-not-agrees.true) in
    ap (λ z. Ok z) there ∙ sym (ap (on_done (view_of k))
    (next_go (record { checks = ks ++ u.checks; done = w }) (agreeing (agrees_of round_slots (offer_in m o).row.negotiation c.args.t) c.args.now o) (append_go ks u.checks tt w h ∙ other_ok u.checks u.done w i) ∙ ap outcome off))

pub returns : goal.returns
returns c = λ o m e.
    let ks = amends_in m c.args.now c.args.caller o c.args.t c.args.round in
    let u = reoffer_of (account_in m c.args.caller).row (terms_in m o) c.args.t in
    let w = amended_in m c.args.now c.args.caller o c.args.t in
    let k = deal_keys (Some c.args.caller) (Some (originator_of m o)) m o in
    let h = sym (simp e at c.amend_checks.ensures) ∙ c.in_ok-amend_checks.was in
    let i = sym (simp e at c.reoffer.ensures) ∙ c.in_ok-row.was in
    let there = c.with_amendment-mid.ensures c.args.caller o (Some (originator_of m o)) (Some (offer_in m o).row.offer.invoice) m e ∙ ap (λ r. view_of k (with_lender_round m c.args.now c.args.caller o r c.args.t)) (verdict_done u.checks i) in
    let s = amend_keys m c.args.now c.args.caller o c.args.t c.args.round (verdict_first ks tt h) u.done in
    let on = agrees_on c.args.now o w (sym (simp e at c.agrees.ensures) ∙ c.if-not-agrees.false) in
    turn_at m (sym s) (concluding c.args.now o w) (c.conclude.ensures o w (view_at w s there)) ∙ sym (ap (on_done (view_of k))
    (next_go (record { checks = ks ++ u.checks; done = w }) (agreeing (agrees_of round_slots (offer_in m o).row.negotiation c.args.t) c.args.now o) (append_go ks u.checks tt w h ∙ other_ok u.checks u.done w i) ∙ ap outcome on))
