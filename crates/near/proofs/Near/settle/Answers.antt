use Rattle.std.proofs.Common.{◌≡◌, ℕ, sym, ap, ◌∙◌}
use Rattle.std.proofs.lemmas.Result.{err_from_is_err_and}
use Rattle.rules.specs.Model.{Model}
use Rattle.rules.specs.Rules.{lender_of, originator_of}
use Rattle.near.specs.Settling.{unpaid, unfinanced, settled}
use Rattle.near.proofs.Near.settle.Goals as goal

pub returns-in_err-parties : goal.returns-in_err-parties
returns-in_err-parties c = λ o m e.
    let s = (simp (ap (λ n. n.deal) e) at c.settle_by.ensures) (lender_of m o) (originator_of m o) m.accounts (ap (λ n. n.parties) e) in
    let p = err_from_is_err_and c.from_residual.result c.from_residual.ensures.1 in
    rw (p.1, p.2) (unpaid c.args.lends m o c.args.now (sym c.in_err-parties.was ∙ s))

pub returns-in_err-totals : goal.returns-in_err-totals
returns-in_err-totals c = λ o m e.
    let s = (simp (ap (λ n. n.deal) e) at c.settle_by.ensures) (lender_of m o) (originator_of m o) m.accounts (ap (λ n. n.parties) e) in
    let p = err_from_is_err_and c.from_residual-in_err-totals.result c.from_residual-in_err-totals.ensures.1 in
    rw (p.1, p.2) (unfinanced c.args.lends m o c.args.now (sym c.in_ok-parties.was ∙ s) (sym c.in_err-totals.was ∙ (simp e at c.finance.ensures)))

pub returns : goal.returns
returns c = λ o m e.
    let s = (simp (ap (λ n. n.deal) e) at c.settle_by.ensures) (lender_of m o) (originator_of m o) m.accounts (ap (λ n. n.parties) e) in
    rw (c.put.ensures, c.put-2.ensures, c.financed.ensures, c.settled.ensures)
    (settled c.args.lends m o c.args.now e (sym c.in_ok-parties.was ∙ s) (sym c.in_ok-totals.was ∙ (simp e at c.finance.ensures)))
