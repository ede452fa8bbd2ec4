use Rattle.std.proofs.Common.{Bool, not, ◌&&◌, refl, sym, ap, subst, arith, ◌≡◌, ◌∙◌}
use Rattle.table.specs.Tables.{has}
use Rattle.table.specs.Named.{find_by, put_by}
use Rattle.table.proofs.NamedLaws.{fine_by}
use Rattle.table.proofs.SpotLaws.{spot_found}
use Rattle.table.proofs.Storing.{stays, room, grows}
use Rattle.shelves.specs.Accounts.{accounts_of, AccountShelf}
use Rattle.shelves.specs.Laws.{accounts_keeping}
use Rattle.shelves.specs.Seeing.{account_row}
use Rattle.shelves.specs.Placing.{accounts_twice, was_by}
use Rattle.shelves.proofs.Accounts.store_at.Goals as goal

pub put-requires-2 : goal.put-requires-2
put-requires-2 c = record {
  shelf = subst AccountShelf (sym c.put.ensures.stored) (accounts_keeping.good (fine_by (accounts_keeping.fine _ c.requires.shelf) c.args.second c.args.y));
  found = rw (c.put.ensures.ids.0, c.put.ensures.ids.1) c.requires.found;
}

pub let_in-requires : goal.let_in-requires
let_in-requires c =
    subst AccountShelf (sym (accounts_twice c.requires.shelf c.args.first c.args.second c.args.x.row c.args.y c.put.ensures.stored c.put-2.ensures.stored))
    (accounts_keeping.good (fine_by (fine_by (accounts_keeping.fine _ c.requires.shelf) c.args.second c.args.y) c.args.first c.args.x.row))

pub returns-then-was-x : goal.returns-then-was-x
returns-then-was-x c = λ u l.
    let wrote = accounts_twice c.requires.shelf c.args.first c.args.second c.args.x.row c.args.y c.put.ensures.stored c.put-2.ensures.stored in
    let was = was_by _ _ (spot_found c.requires.shelf (omega arith) c.args.first c.requires.found) in
    let came = ap (λ z. not z && c.args.x.here) (sym was) ∙ c.if-was-x.true in
    grows accounts_keeping account_row (λ r. refl) l wrote came ((simp c.id_of.ensures at c.let_in.ensures) (room accounts_keeping account_row (λ r. refl) l wrote came))

pub returns-else-was-x : goal.returns-else-was-x
returns-else-was-x c = λ u l.
    let wrote = accounts_twice c.requires.shelf c.args.first c.args.second c.args.x.row c.args.y c.put.ensures.stored c.put-2.ensures.stored in
    let was = was_by _ _ (spot_found c.requires.shelf (omega arith) c.args.first c.requires.found) in
    stays accounts_keeping account_row (λ r. refl) l wrote (ap (λ z. not z && c.args.x.here) (sym was) ∙ c.if-was-x.false)
