use Rattle.std.proofs.Common.{arith, ap, sym, set, get_or, ◌∙◌}
use Rattle.std.proofs.lemmas.List.{set-get_or}
use Rattle.table.proofs.SpotLaws.{spot_below, spot_put, written_new, written_old}
use Rattle.invoice.specs.Invoice.{no_invoice}
use Rattle.shelves.specs.Invoices.{as_invoices}
use Rattle.shelves.proofs.Invoices.put.Goals as goal

pub offset_bounds-self-found : goal.offset_bounds-self-found
offset_bounds-self-found c = let b = spot_below c.requires.shelf (omega arith) c.args.key c.requires.found in omega (arith, b)

pub bounds-self-found : goal.bounds-self-found
bounds-self-found c = spot_below c.requires.shelf (omega arith) c.args.key c.requires.found

pub returns-then-found : goal.returns-then-found
returns-then-found c =
    let s = c.args.self.now in
    let p = c.args.found in
    ap (λ z. as_invoices s.ids (set s.rows p.at z) s.count) (written_new p.here c.args.paper (get_or s.rows p.at no_invoice) c.if-found.true)
    ∙ spot_put c.requires.shelf (omega arith) c.args.key c.requires.found as_invoices c.args.paper

pub returns-else-found : goal.returns-else-found
returns-else-found c =
    let s = c.args.self.now in
    let p = c.args.found in
    ap (λ z. as_invoices s.ids z s.count) (sym (set-get_or s.rows p.at no_invoice))
    ∙ ap (λ z. as_invoices s.ids (set s.rows p.at z) s.count) (written_old p.here c.args.paper (get_or s.rows p.at no_invoice) c.if-found.false)
    ∙ spot_put c.requires.shelf (omega arith) c.args.key c.requires.found as_invoices c.args.paper
