use Rattle.std.proofs.Common.{arith, ◌≡◌, sym, ap, ◌∙◌, le-ltb, eq-eqb, ne_eqb}
use Rattle.refusal.specs.ChoiceLaws.{pick_on, pick_off}
use Rattle.terms.specs.Terms.{same_terms}
use Rattle.negotiation.specs.Rounds.{latest_below, matches, agrees_of}
use Rattle.negotiation.specs.Latest.{latest_step}
use Rattle.negotiation.proofs.Negotiation.agrees.Goals as goal

pub returns-then-r-eq-ORIGINATOR : goal.returns-then-r-eq-ORIGINATOR
unfolding agrees_of matches
returns-then-r-eq-ORIGINATOR c =
    c.same_terms.ensures ∙ ap (λ u. same_terms u c.args.t) c.terms.ensures
    ∙ sym (ap (matches _) (pick_off _ _ (le-ltb _ _ c.if-self-gt-ROUND_SLOTS.false)
    ∙ c.loop-i.invariant
    ∙ latest_step _ _ c.loop-i-test.true
    ∙ pick_on _ _ (eq-eqb _ _ c.if-r-eq-ORIGINATOR.true)))

pub loop-i-preserved : goal.loop-i-preserved
loop-i-preserved c = c.loop-i.invariant ∙ latest_step _ _ c.loop-i-test.true ∙ pick_off _ _ (ne_eqb _ _ c.if-r-eq-ORIGINATOR.false)

pub returns : goal.returns
unfolding agrees_of matches latest_below
returns c =
    let e : c.loop-i.i ≡ 0 = omega arith in
    sym (ap (matches _) (pick_off _ _ (le-ltb _ _ c.if-self-gt-ROUND_SLOTS.false) ∙ c.loop-i.invariant ∙ ap (latest_below _) e))
