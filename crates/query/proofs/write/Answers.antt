use Rattle.std.proofs.Common.{◌∙◌, ◌+◌, ◌*◌, ap, sym, refl, arith, [], length, get_or}
use Rattle.std.specs.Prelude.{Some}
use Rattle.table.proofs.SpotLaws.{spot_below, spot_found}
use Rattle.account.specs.Seen.{seen_account}
use Rattle.offer.specs.Seen.{seen_deal}
use Rattle.shelves.specs.Invoices.{invoices_of}
use Rattle.shelves.specs.Placing.{deal_read_lem}
use Rattle.query.specs.Questions.{reply_to}
use Rattle.query.specs.Asking.{twelve_long, model_by, reply_start, reply_on, reply_room, reply_done, reply_length}
use Rattle.query.proofs.write.Goals as goal

pub loop-i-init : goal.loop-i-init
loop-i-init c t = reply_start _ _ _

pub offset_bounds-offers-offer : goal.offset_bounds-offers-offer
offset_bounds-offers-offer c = omega (arith, spot_below c.requires.shelved.offers.shelf (omega arith) (Some (get_or c.args.questions.now (3 * c.loop-i.i + 1) 0)) c.spot_by-offer.ensures)

pub bounds-offers-offer : goal.bounds-offers-offer
bounds-offers-offer c = omega (arith, spot_below c.requires.shelved.offers.shelf (omega arith) (Some (get_or c.args.questions.now (3 * c.loop-i.i + 1) 0)) c.spot_by-offer.ensures)

pub offset_bounds-offers-offer-in-loop-i : goal.offset_bounds-offers-offer-in-loop-i
offset_bounds-offers-offer-in-loop-i c = omega (arith, spot_below c.requires.shelved.offers.shelf (omega arith) (Some (get_or c.args.questions.now (3 * c.loop-i.i + 1) 0)) c.spot_by-offer.ensures)

pub bounds-offers-offer-in-loop-i : goal.bounds-offers-offer-in-loop-i
bounds-offers-offer-in-loop-i c = omega (arith, spot_below c.requires.shelved.offers.shelf (omega arith) (Some (get_or c.args.questions.now (3 * c.loop-i.i + 1) 0)) c.spot_by-offer.ensures)

pub offset_bounds-offers-offer-in-loop-i-2 : goal.offset_bounds-offers-offer-in-loop-i-2
offset_bounds-offers-offer-in-loop-i-2 c = omega (arith, spot_below c.requires.shelved.offers.shelf (omega arith) (Some (get_or c.args.questions.now (3 * c.loop-i.i + 1) 0)) c.spot_by-offer.ensures)

pub bounds-offers-offer-in-loop-i-2 : goal.bounds-offers-offer-in-loop-i-2
bounds-offers-offer-in-loop-i-2 c = omega (arith, spot_below c.requires.shelved.offers.shelf (omega arith) (Some (get_or c.args.questions.now (3 * c.loop-i.i + 1) 0)) c.spot_by-offer.ensures)

pub offset_bounds-accounts-account : goal.offset_bounds-accounts-account
offset_bounds-accounts-account c = omega (arith, spot_below c.requires.shelved.accounts (omega arith) (Some (get_or c.args.questions.now (3 * c.loop-i.i + 1) 0)) c.spot_by-account.ensures)

pub bounds-accounts-account : goal.bounds-accounts-account
bounds-accounts-account c = omega (arith, spot_below c.requires.shelved.accounts (omega arith) (Some (get_or c.args.questions.now (3 * c.loop-i.i + 1) 0)) c.spot_by-account.ensures)

pub overflow_mul-i : goal.overflow_mul-i
overflow_mul-i c = omega (arith, reply_room (c.loop-i.invariant []) c.requires.room c.loop-i-test.true, reply_length (c.loop-i.invariant []) c.requires.room)

pub put-requires : goal.put-requires
put-requires c =
    let m = model_by c.args.book.accounts [] c.args.book.offers c.args.book.totals c.args.book.settings in
    let w = c.answer-words.ensures m (record {
      deal_seen = c.at-deal.ensures ∙ ap seen_deal (sym (deal_read_lem c.requires.shelved.offers _ _ _ (Some (get_or c.args.questions.now (3 * c.loop-i.i + 1) 0)) c.spot_by-offer.ensures));
      account_seen = c.at-seen.ensures ∙ ap seen_account (sym (spot_found c.requires.shelved.accounts (omega arith) (Some (get_or c.args.questions.now (3 * c.loop-i.i + 1) 0)) c.spot_by-account.ensures));
      totals_seen = refl;
      settings_seen = refl;
      counted = sym c.requires.shelved.offers.shelf.counted;
    }) in
    omega (
      arith,
      reply_room (c.loop-i.invariant []) c.requires.room c.loop-i-test.true,
      ap length w ∙ twelve_long (reply_to _ _ _ _),
    )

pub loop-i-preserved : goal.loop-i-preserved
loop-i-preserved c t =
    let m = model_by c.args.book.accounts t c.args.book.offers c.args.book.totals c.args.book.settings in
    reply_on (c.loop-i.invariant t) c.requires.room c.loop-i-test.true (c.answer-words.ensures m (record {
      deal_seen = c.at-deal.ensures ∙ ap seen_deal (sym (deal_read_lem c.requires.shelved.offers _ _ _ (Some (get_or c.args.questions.now (3 * c.loop-i.i + 1) 0)) c.spot_by-offer.ensures));
      account_seen = c.at-seen.ensures ∙ ap seen_account (sym (spot_found c.requires.shelved.accounts (omega arith) (Some (get_or c.args.questions.now (3 * c.loop-i.i + 1) 0)) c.spot_by-account.ensures));
      totals_seen = refl;
      settings_seen = refl;
      counted = sym c.requires.shelved.offers.shelf.counted;
    })) c.put.ensures

pub returns : goal.returns
returns c = reply_done (c.loop-i.invariant (invoices_of c.args.book.invoices)) c.requires.room c.loop-i-test.false
