use Rattle.std.proofs.Common.{◌≡◌, ◌∙◌, ap, sym, arith, length, rules, min, take, ℕ}
use Rattle.negotiation.specs.Rounds.{no_round}
use Rattle.lists.specs.Taking.{spread}
use Rattle.sheet.specs.SheetLaws.{next, retext, none}
use Rattle.asking.specs.Answers.{round_line, round_lines}
use Rattle.asking.specs.AnswerLaws.{spread_turn, take_least}
use Rattle.asking.proofs.rows.put_rounds.Goals as goal

pub loop-i-init : goal.loop-i-init
unfolding spread
loop-i-init c = none _ _ _

pub loop-i-preserved : goal.loop-i-preserved
loop-i-preserved c =
    let long : length c.args.g.rounds ≡ 16 = search rules in
    let l = c.loop-i in
    retext (next l.invariant c.put_round-p.ensures) (sym (spread_turn round_line _ l.i no_round (omega (arith, long, c.loop-i-test.true, c.min-i-end.ensures))))

pub returns : goal.returns
unfolding round_lines
returns c =
    let g = c.args.g in
    let long : length g.rounds ≡ 16 = search rules in
    let l = c.loop-i in
    let all : l.i ≡ min g.len 16 = omega (arith, c.min-i-end.ensures, c.loop-i-test.false, l.auto.i-end) in
    retext l.invariant (ap (spread round_line) (ap (λ (n : ℕ). take n g.rounds) all ∙ take_least g.rounds g.len 16 (omega (arith, long))))
