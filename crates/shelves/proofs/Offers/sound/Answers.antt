use Rattle.std.proofs.Common.{arith, rules, sym, ap, subst, ◌≡◌, ◌∙◌, length, cond, ltb}
use Rattle.table.specs.Columns.{any-default, level, join_at}
use Rattle.table.specs.Join.{Level}
use Rattle.table.specs.All.{check_start, check_turn, check_done, both_same, below_on}
use Rattle.table.proofs.TestLaws.{by_use_lem}
use Rattle.negotiation.specs.Rounds.{round_slots, no_negotiation}
use Rattle.negotiation.specs.Whole.{Whole}
use Rattle.offer.specs.Offer.{no_deal, deal_sound, deal_zero}
use Rattle.shelves.specs.Offers.{deal_of, deals_test}
use Rattle.shelves.proofs.Offers.sound.Goals as goal

pub loop-i-init : goal.loop-i-init
loop-i-init c = (check_start _ _, λ k h. absurd (omega arith))

pub loop-i-preserved : goal.loop-i-preserved
loop-i-preserved c =
    let s = c.args.self.now in
    let i = c.loop-i.i in
    let rows : length s.rows ≡ 64 = search rules in
    let negotiations : length s.negotiations ≡ 64 = search rules in
    let schedules : length s.schedules ≡ 64 = search rules in
    let even : Level s.rows s.negotiations s.schedules = level _ _ _ rows negotiations schedules in
    let row_is = join_at deal_of _ _ _ even i (omega (arith, rows, c.loop-i-test.true)) no_deal _ _ _ in
    let negotiation-is = any-default s.negotiations i _ no_negotiation (omega (arith, negotiations, c.loop-i-test.true)) in (
      check_turn c.loop-i.invariant.0 c.loop-i-test.true
          (c.fits-ok.ensures.tested ∙ sym (ap (λ r. cond (ltb i s.count) (deal_sound c.args.edition r) (deal_zero r)) row_is) ∙ sym (by_use_lem s.count i _ _)),
      below_on c.loop-i.invariant.1 (subst (λ n. Whole round_slots n) negotiation-is c.fits-ok.ensures.whole),
    )

pub returns-clause-tested : goal.returns-clause-tested
unfolding deals_test
returns-clause-tested c = both_same c.ids_sound.ensures (check_done c.loop-i.invariant.0 c.loop-i-test.false)

pub returns-clause-whole : goal.returns-clause-whole
returns-clause-whole c = record {
  ids_long = search rules;
  rows_long = search rules;
  negotiations_long = search rules;
  schedules_long = search rules;
  whole = λ k h. c.loop-i.invariant.1 k (omega (arith, c.loop-i-test.false));
}
