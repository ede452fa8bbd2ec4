use Rattle.std.proofs.Common.{◌≡◌, length, rules, arith}
use Rattle.snapshot.specs.Listing.{table_begun, table_more, table_whole}
use Rattle.snapshot.proofs.writing.put_rows.Goals as goal

pub loop-i-init : goal.loop-i-init
loop-i-init g c = table_begun _ _ _ _ _ _

pub loop-i-preserved : goal.loop-i-preserved
loop-i-preserved g c =
    let a = c.args in
    let ids : length a.ids.now ≡ 64 = search rules in
    let rows : length a.list.now ≡ 64 = search rules in
    table_more _ _ a.ids.now a.list.now _ _ c.index-list-i.result (omega (arith, c.loop-i-test.true, c.requires)) (omega (arith, c.loop-i-test.true, c.requires)) c.loop-i.invariant c.put-p-in-loop-i.ensures

pub returns : goal.returns
returns g c =
    let a = c.args in
    let ids : length a.ids.now ≡ 64 = search rules in
    let rows : length a.list.now ≡ 64 = search rules in
    table_whole a.ids.now a.list.now a.tag 64 (omega arith) (omega (arith, c.requires)) (omega (arith, c.requires)) c.requires c.put-p.ensures c.loop-i.invariant
