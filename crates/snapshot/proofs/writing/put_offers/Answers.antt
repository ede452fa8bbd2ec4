use Rattle.std.proofs.Common.{◌≡◌, ◌≤◌, length, rules, arith}
use Rattle.offer.specs.Offer.{no_deal}
use Rattle.shelves.specs.Offers.{rows_of}
use Rattle.snapshot.specs.Listing.{table_begun, table_made, table_whole, few_deals, deals_long, deal_at_lem, deal_sound_lem}
use Rattle.snapshot.proofs.writing.put_offers.Goals as goal

pub loop-i-init : goal.loop-i-init
loop-i-init c = record { few = few_deals c.args.edition c.args.table c.requires; listing = table_begun _ _ _ _ _ _ }

pub put_deal-p-requires : goal.put_deal-p-requires
put_deal-p-requires c =
    let t = c.args.table in
    let rows : length t.rows ≡ 64 = search rules in
    let negotiations : length t.negotiations ≡ 64 = search rules in
    let schedules : length t.schedules ≡ 64 = search rules in
    deal_sound_lem c.args.edition t c.requires rows negotiations schedules c.loop-i.i c.loop-i-test.true _ _ _

pub loop-i-preserved : goal.loop-i-preserved
loop-i-preserved c =
    let t = c.args.table in
    let few : t.count ≤ 64 = few_deals c.args.edition t c.requires in
    let ids : length t.ids ≡ 64 = search rules in
    let rows : length t.rows ≡ 64 = search rules in
    let negotiations : length t.negotiations ≡ 64 = search rules in
    let schedules : length t.schedules ≡ 64 = search rules in
    let all : length (rows_of t) ≡ 64 = deals_long c.args.edition t c.requires rows negotiations schedules in
    record { few = few; listing = table_made _ _ t.ids (rows_of t) _ _ no_deal (omega arith) (omega arith) (deal_at_lem c.args.edition t c.requires rows negotiations schedules c.loop-i.i c.loop-i-test.true _ _ _ no_deal) c.loop-i.invariant.listing c.put_deal-p.ensures }

pub returns : goal.returns
returns c =
    let t = c.args.table in
    let few : t.count ≤ 64 = few_deals c.args.edition t c.requires in
    let ids : length t.ids ≡ 64 = search rules in
    let rows : length t.rows ≡ 64 = search rules in
    let negotiations : length t.negotiations ≡ 64 = search rules in
    let schedules : length t.schedules ≡ 64 = search rules in
    let all : length (rows_of t) ≡ 64 = deals_long c.args.edition t c.requires rows negotiations schedules in
    table_whole t.ids (rows_of t) 0x90 64 (omega arith) (omega arith) (omega arith) few c.put-p.ensures c.loop-i.invariant.listing
