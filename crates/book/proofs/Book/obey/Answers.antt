use Rattle.std.proofs.Common.{◌≡◌, refl, sym, ◌∙◌}
use Rattle.std.proofs.lemmas.Result.{err_from_is_err_and}
use Rattle.std.specs.Prelude.{Ok, Err}
use Rattle.rules.specs.Keys.{keys_by}
use Rattle.book.specs.Turning.{Turned, turns, fetched, counts_by_lem, refused_answer, refused_book, accounts_left, invoices_left, offers_left, steps, answer_ok}
use Rattle.book.proofs.Book.obey.Goals as goal

pub returns-in_err-after : goal.returns-in_err-after
returns-in_err-after c =
    let k = keys_by c.names-names.result.first c.key-other.result c.key-key.result c.names-names.result.offer in
    let s = c.requires in
    let f = fetched c.names-names.ensures c.see_at-deal.ensures c.key-key.ensures c.see_at-paper.ensures c.key-other.ensures c.see_at.ensures c.see_at-2.ensures c.same.ensures in
    let t = turns s f (counts_by_lem s) c.turn.ensures in
    let p = err_from_is_err_and c.from_residual.result c.from_residual.ensures.1 in
    let h = sym c.in_err-after.was ∙ t in
    record { answer = rw (p.1, p.2) (refused_answer c.args.self.now c.args.c k h); book = refused_book c.args.self.now c.args.c k s h }

pub returns : goal.returns
returns c =
    let k = keys_by c.names-names.result.first c.key-other.result c.key-key.result c.names-names.result.offer in
    let s = c.requires in
    let f = fetched c.names-names.ensures c.see_at-deal.ensures c.key-key.ensures c.see_at-paper.ensures c.key-other.ensures c.see_at.ensures c.see_at-2.ensures c.same.ensures in
    let x : Turned c.args.self.now c.args.c k c.in_ok-after.after = record { shelved = s; keys = f.keys; is = sym c.in_ok-after.was ∙ turns s f (counts_by_lem s) c.turn.ensures } in
    record {
      answer = answer_ok x;
      book = steps x (c.store_at.ensures _ (accounts_left x refl)) (c.store_at-2.ensures _ (invoices_left x refl)) (c.store_at-3.ensures _ (offers_left x refl));
    }
