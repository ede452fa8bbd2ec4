use Rattle.std.proofs.Common.{Bool, not, ◌&&◌, refl, sym, ap, subst, arith, ◌≡◌, ◌∙◌}
use Rattle.table.proofs.NamedLaws.{fine_by}
use Rattle.table.proofs.SpotLaws.{spot_found}
use Rattle.table.proofs.Storing.{stays, room, grows, once}
use Rattle.shelves.specs.Invoices.{invoices_of, stored_invoices, InvoiceShelf}
use Rattle.shelves.specs.Laws.{invoices_keeping}
use Rattle.shelves.specs.Seeing.{invoice_row}
use Rattle.shelves.specs.Placing.{was_by}
use Rattle.shelves.proofs.Invoices.store_at.Goals as goal

pub let_in-requires : goal.let_in-requires
let_in-requires c = subst InvoiceShelf (sym c.put.ensures) (invoices_keeping.good (fine_by (invoices_keeping.fine _ c.requires.shelf) c.args.key c.args.paper.row))

pub returns-then-was-paper : goal.returns-then-was-paper
returns-then-was-paper c = λ u l.
    let wrote = once stored_invoices (invoices_of c.args.self.now) c.args.key c.args.paper.row c.put.ensures in
    let was = was_by _ _ (spot_found c.requires.shelf (omega arith) c.args.key c.requires.found) in
    let came = ap (λ z. not z && c.args.paper.here) (sym was) ∙ c.if-was-paper.true in
    grows invoices_keeping invoice_row (λ r. refl) l wrote came ((simp c.id_of.ensures at c.let_in.ensures) (room invoices_keeping invoice_row (λ r. refl) l wrote came))

pub returns-else-was-paper : goal.returns-else-was-paper
returns-else-was-paper c = λ u l.
    let wrote = once stored_invoices (invoices_of c.args.self.now) c.args.key c.args.paper.row c.put.ensures in
    let was = was_by _ _ (spot_found c.requires.shelf (omega arith) c.args.key c.requires.found) in
    stays invoices_keeping invoice_row (λ r. refl) l wrote (ap (λ z. not z && c.args.paper.here) (sym was) ∙ c.if-was-paper.false)
