use Rattle.std.proofs.Common.{◌≡◌, length, rules, arith}
use Rattle.edition.specs.Edition.{round_limit}
use Rattle.offer.specs.Kept.{limit_in_slots}
use Rattle.snapshot.specs.Listing.{taken_start, taken_turn, taken_done}
use Rattle.snapshot.proofs.writing.put_rounds.Goals as goal

pub loop-i-init : goal.loop-i-init
loop-i-init c = record { few = omega (arith, c.requires, limit_in_slots c.args.edition); listing = taken_start _ _ c.args.list _ _ }

pub loop-i-preserved : goal.loop-i-preserved
loop-i-preserved c =
    let long : length c.args.list ≡ 16 = search rules in
    record { few = c.loop-i.invariant.few; listing = taken_turn _ _ c.args.list _ _ _ (omega (arith, c.loop-i-test.true, c.loop-i.invariant.few)) c.loop-i.invariant.listing c.put_round-p.ensures }

pub returns : goal.returns
returns c =
    let long : length c.args.list ≡ 16 = search rules in
    taken_done c.args.list {i = c.loop-i.i} 0x97 (round_limit c.args.edition) (omega arith) (omega (arith, c.requires, limit_in_slots c.args.edition)) c.requires c.put-p.ensures c.loop-i.invariant.listing
