use Rattle.std.proofs.Common.{arith, refl, ap, sym, set, get_or, ◌∙◌}
use Rattle.std.proofs.lemmas.List.{set-get_or}
use Rattle.table.proofs.SpotLaws.{spot_below, spot_put, written_new, written_old}
use Rattle.account.specs.Account.{no_account}
use Rattle.shelves.specs.Accounts.{as_accounts}
use Rattle.shelves.proofs.Accounts.put.Goals as goal

pub offset_bounds-self-spot : goal.offset_bounds-self-spot
offset_bounds-self-spot c = let b = spot_below c.requires.shelf (omega arith) c.args.whose c.requires.found in omega (arith, b)

pub bounds-self-spot : goal.bounds-self-spot
bounds-self-spot c = spot_below c.requires.shelf (omega arith) c.args.whose c.requires.found

pub returns-then-spot : goal.returns-then-spot
returns-then-spot c =
    let s = c.args.self.now in
    let p = c.args.spot in
    record {
      stored =
          ap (λ z. as_accounts s.ids (set s.rows p.at z) s.count) (written_new p.here c.args.account (get_or s.rows p.at no_account) c.if-spot.true)
          ∙ spot_put c.requires.shelf (omega arith) c.args.whose c.requires.found as_accounts c.args.account;
      ids = (refl, refl);
    }

pub returns-else-spot : goal.returns-else-spot
returns-else-spot c =
    let s = c.args.self.now in
    let p = c.args.spot in
    record {
      stored =
          ap (λ z. as_accounts s.ids z s.count) (sym (set-get_or s.rows p.at no_account))
          ∙ ap (λ z. as_accounts s.ids (set s.rows p.at z) s.count) (written_old p.here c.args.account (get_or s.rows p.at no_account) c.if-spot.false)
          ∙ spot_put c.requires.shelf (omega arith) c.args.whose c.requires.found as_accounts c.args.account;
      ids = (refl, refl);
    }
