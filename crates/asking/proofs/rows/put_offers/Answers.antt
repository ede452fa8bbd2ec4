use Rattle.std.proofs.Common.{◌∙◌, ap, sym, List, ◌++◌, ℕ, take, take_all}
use Rattle.lists.specs.declared.OfferNumbers.{OfferNumbers}
use Rattle.lists.specs.Taking.{pick_from, spread}
use Rattle.lists.specs.Listing.{offers_of, taking, in_order}
use Rattle.lists.specs.Rows.{past, inside, entry, asked}
use Rattle.lists.specs.Rows as rows
use Rattle.sheet.specs.SheetLaws.{next, retext, none}
use Rattle.asking.specs.Answers.{row_of, offer_line, offer_lines}
use Rattle.asking.specs.AnswerLaws.{taken, left_out}
use Rattle.asking.proofs.rows.put_offers.Goals as goal
use Rattle.asking.proofs.rows.put_offers.Goals.{then-takes, else-takes}

pub loop-i-init : goal.loop-i-init
unfolding spread pick_from
loop-i-init c = none _ _ _

pub loop-i-preserved : goal.loop-i-preserved
loop-i-preserved c =
    let u = c.in_use-i-end.ensures in
    let l = c.loop-i in
    let h = c.loop-i-test.true in
    let a = c.args in
    elim c.if-takes.branch [
      | then-takes x ↦ rw (x.out-is, x.p-is) (retext (next l.invariant x.put_offer-p.ensures)
          (ap (λ (z : List ℕ). spread offer_line (pick_from (taking a.w) 0 (take l.i (offers_of a.rows))) ++ z) (ap (λ (o : OfferNumbers). row_of (in_order o)) x.of.ensures ∙ ap offer_line (sym (entry u l.i h)))
          ∙ sym (taken offer_line (taking a.w) _ l.i rows.none (inside u l.i h) (asked u l.i h a.w _ _ c.takes.ensures x.if-takes.true))))
      | else-takes x ↦ rw (x.out-is, x.p-is) (retext l.invariant (sym (left_out offer_line (taking a.w) _ l.i rows.none (inside u l.i h) (asked u l.i h a.w _ _ c.takes.ensures x.if-takes.false))))
    ]

pub returns : goal.returns
unfolding offer_lines
returns c = retext c.loop-i.invariant (ap (λ t. spread offer_line (pick_from (taking c.args.w) 0 t)) (take_all _ _ (past c.in_use-i-end.ensures _ c.loop-i-test.false)))
