use Rattle.std.proofs.Common.{◌≡◌, sym, ap, ◌∙◌}
use Rattle.std.proofs.lemmas.Result.{err_from_is_err_and}
use Rattle.std.specs.Prelude.{Some, Ok}
use Rattle.refusal.specs.Rule.{on_done, outcome}
use Rattle.refusal.specs.Returned.{verdict_first}
use Rattle.terms.specs.Terms.{same_terms}
use Rattle.rules.specs.Agreeing.{agrees_on, agrees_off}
use Rattle.rules.specs.Model.{offer_in}
use Rattle.rules.specs.Rules.{counters_in, lender_of, terms_in, countered_in, agreeing, concluding}
use Rattle.near.specs.Near.{view_of, deal_keys}
use Rattle.near.specs.Returns.{other_err, other_ok, next_err, next_go}
use Rattle.near.specs.Sides.{turn_at, view_at, counter_keys}
use Rattle.near.proofs.Near.countered.Goals as goal

pub returns-in_err-counter_checks : goal.returns-in_err-counter_checks
returns-in_err-counter_checks c = λ o m e.
    let ks = counters_in m c.args.now c.args.caller o c.args.t c.args.round in
    let w = countered_in m c.args.now o c.args.t in
    let h = sym (simp e at c.counter_checks.ensures) ∙ c.in_err-counter_checks.was in
    let p = err_from_is_err_and c.from_residual.result c.from_residual.ensures.1 in
    rw (p.1, p.2) (sym (ap (on_done (view_of (deal_keys (Some c.args.caller) (Some (lender_of m o)) m o)))
    (next_err (record { checks = ks; done = w }) (agreeing (same_terms (terms_in m o) c.args.t) c.args.now o) (other_err ks tt w h))))

pub returns-then-not-same_terms : goal.returns-then-not-same_terms
returns-then-not-same_terms c = λ o m e.
    let ks = counters_in m c.args.now c.args.caller o c.args.t c.args.round in
    let w = countered_in m c.args.now o c.args.t in
    let k = deal_keys (Some c.args.caller) (Some (lender_of m o)) m o in
    let h = sym (simp e at c.counter_checks.ensures) ∙ c.in_ok-counter_checks.was in
    let there = c.with_counter-mid.ensures o (Some c.args.caller) (Some (lender_of m o)) (Some (offer_in m o).row.offer.invoice) m e in
    let off = agrees_off c.args.now o w (sym (simp e at c.same_terms.ensures) ∙ c.if-not-same_terms.true) in
    ap (λ z. Ok z) there ∙ sym (ap (on_done (view_of k))
    (next_go (record { checks = ks; done = w }) (agreeing (same_terms (terms_in m o) c.args.t) c.args.now o) (other_ok ks tt w h) ∙ ap outcome off))

pub returns : goal.returns
returns c = λ o m e.
    let ks = counters_in m c.args.now c.args.caller o c.args.t c.args.round in
    let w = countered_in m c.args.now o c.args.t in
    let k = deal_keys (Some c.args.caller) (Some (lender_of m o)) m o in
    let h = sym (simp e at c.counter_checks.ensures) ∙ c.in_ok-counter_checks.was in
    let there = c.with_counter-mid.ensures o (Some c.args.caller) (Some (lender_of m o)) (Some (offer_in m o).row.offer.invoice) m e in
    let s = counter_keys m c.args.now c.args.caller o c.args.t c.args.round (verdict_first ks tt h) in
    let on = agrees_on c.args.now o w (sym (simp e at c.same_terms.ensures) ∙ c.if-not-same_terms.false) in
    turn_at m (sym s) (concluding c.args.now o w) (c.conclude.ensures o w (view_at w s there)) ∙ sym (ap (on_done (view_of k))
    (next_go (record { checks = ks; done = w }) (agreeing (same_terms (terms_in m o) c.args.t) c.args.now o) (other_ok ks tt w h) ∙ ap outcome on))
