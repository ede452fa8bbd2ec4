use Rattle.std.proofs.Common.{◌≡◌, sym, ap, ◌∙◌}
use Rattle.std.proofs.lemmas.Result.{err_from_is_err_and}
use Rattle.std.specs.Prelude.{Some}
use Rattle.refusal.specs.Rule.{on_done}
use Rattle.refusal.specs.Returned.{verdict_first}
use Rattle.offer.specs.Rules.{accept_checks}
use Rattle.rules.specs.Agreeing.{accept_caller}
use Rattle.rules.specs.Model.{Model, offer_in, paper_of}
use Rattle.rules.specs.Rules.{settling, lender_of}
use Rattle.near.specs.Near.{view_of, deal_keys}
use Rattle.near.specs.Returns.{next_err, next_go, other_err, other_ok}
use Rattle.near.specs.Sides.{turn_at, view_at, second_lends}
use Rattle.near.proofs.Near.accepted.Goals as goal

pub returns-in_err-accept_checks : goal.returns-in_err-accept_checks
returns-in_err-accept_checks c = λ o m e.
    let ks = accept_checks (offer_in m o) c.args.now c.args.caller (paper_of m o) in
    let h = sym (simp e at c.accept_checks.ensures) ∙ c.in_err-accept_checks.was in
    let p = err_from_is_err_and c.from_residual.result c.from_residual.ensures.1 in
    rw (p.1, p.2) (sym (ap (on_done (view_of (deal_keys (Some c.args.caller) (Some (lender_of m o)) m o))) (next_err (record { checks = ks; done = m }) (settling c.args.now o) (other_err ks tt m h))))

pub returns : goal.returns
returns c = λ o m e.
    let ks = accept_checks (offer_in m o) c.args.now c.args.caller (paper_of m o) in
    let h = sym (simp e at c.accept_checks.ensures) ∙ c.in_ok-accept_checks.was in
    let k = second_lends m o c.args.caller (accept_caller m c.args.now c.args.caller o (verdict_first ks tt h)) in
    turn_at m (sym k) (settling c.args.now o m) (c.settle.ensures o m (view_at m k e))
    ∙ sym (ap (on_done (view_of (deal_keys (Some c.args.caller) (Some (lender_of m o)) m o))) (next_go (record { checks = ks; done = m }) (settling c.args.now o) (other_ok ks tt m h)))
