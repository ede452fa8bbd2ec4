use Rattle.std.proofs.Common.{◌≡◌, ◌+◌, ◌-◌, length, take, drop, arith, length-drop, length-take-le}
use Rattle.refusal.specs.PlacedLaws.{placed_mid}
use Rattle.rescue.proofs.Sweeping.{no_copy, a_copy}
use Rattle.rescue.proofs.keep.Goals as goal

pub returns-then-not-good : goal.returns-then-not-good
returns-then-not-good c = let a = c.args in no_copy a.out.now a.p (take a.size (drop a.at a.s.now)) c.if-not-good.true

pub returns : goal.returns
returns c =
    let a = c.args in
    let w = take a.size (drop a.at a.s.now) in
    let long : length w ≡ a.size = length-take-le a.size (drop a.at a.s.now) (omega (arith, c.requires.0, length-drop a.at a.s.now)) in
    let z : a.at + a.size - a.at ≡ a.size = omega arith in
    a_copy a.out.now a.p w c.if-not-good.false (omega arith) (placed_mid a.p w a.out.now c.copy.new.to (omega (arith, c.requires.1)) (rw z at c.copy.ensures.value))
