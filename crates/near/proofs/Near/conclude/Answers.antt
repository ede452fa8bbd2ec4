use Rattle.std.proofs.Common.{◌≡◌, sym, ap, ◌∙◌}
use Rattle.std.proofs.lemmas.Result.{err_from_is_err_and}
use Rattle.refusal.specs.Rule.{on_done}
use Rattle.offer.specs.Rules.{agreement_checks}
use Rattle.rules.specs.Model.{Model, account_in, offer_in, paper_of}
use Rattle.rules.specs.Rules.{settling, concluding, lender_of, originator_of}
use Rattle.near.specs.Near.{view_of, sides_of}
use Rattle.near.specs.Returns.{next_err, next_go, other_err, other_ok}
use Rattle.near.specs.Sides.{side_by}
use Rattle.near.proofs.Near.conclude.Goals as goal

pub returns-in_err-agreement_checks : goal.returns-in_err-agreement_checks
unfolding concluding
returns-in_err-agreement_checks c = λ o m e.
    let ks = agreement_checks (offer_in m o).row c.args.now (paper_of m o) (account_in m (lender_of m o)) (account_in m (originator_of m o)) in
    let h = simp (c.side-lender.ensures, c.side-originator.ensures, e, (side_by c.args.lends (lender_of m o) (originator_of m o) m.accounts).0, (side_by c.args.lends (lender_of m o) (originator_of m o) m.accounts).1) at c.agreement_checks.ensures in
    let p = err_from_is_err_and c.from_residual.result c.from_residual.ensures.1 in
    rw (p.1, p.2) (sym (ap (on_done (view_of (sides_of c.args.lends m o))) (next_err (record { checks = ks; done = m }) (settling c.args.now o) (other_err ks tt m (sym h ∙ c.in_err-agreement_checks.was)))))

pub returns : goal.returns
unfolding concluding
returns c = λ o m e.
    let ks = agreement_checks (offer_in m o).row c.args.now (paper_of m o) (account_in m (lender_of m o)) (account_in m (originator_of m o)) in
    let h = simp (c.side-lender.ensures, c.side-originator.ensures, e, (side_by c.args.lends (lender_of m o) (originator_of m o) m.accounts).0, (side_by c.args.lends (lender_of m o) (originator_of m o) m.accounts).1) at c.agreement_checks.ensures in
    c.settle.ensures o m e ∙ sym (ap (on_done (view_of (sides_of c.args.lends m o))) (next_go (record { checks = ks; done = m }) (settling c.args.now o) (other_ok ks tt m (sym h ∙ c.in_ok-agreement_checks.was))))
