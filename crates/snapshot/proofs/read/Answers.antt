use Rattle.std.proofs.Common.{◌≡◌, Bool, ◌&&◌, ap, ◌∙◌}
use borrow.Author.Tests.{not-true, not-false}
use Rattle.rules.specs.Model.{Model}
use Rattle.book.specs.declared.Book.{Book}
use Rattle.book.specs.Stored.{stored, book_test}
use Rattle.snapshot.specs.Layout.{model_from}
use Rattle.snapshot.specs.Snapshot.{loaded_as}
use Rattle.snapshot.specs.Answers.{read-refused, read_past, read_unsound, read_whole}
use Rattle.snapshot.proofs.Fields.{takes_fields}
use Rattle.snapshot.proofs.read.Goals as goal

pub returns-then-c-ne0 : goal.returns-then-c-ne0
returns-then-c-ne0 c =
    let given = c.read_edition-e.ensures.on (takes_fields _ c.read_settings-p.ensures c.read_totals-t.ensures c.read_accounts-a.ensures.takes c.read_invoices-i.ensures.takes c.read_offers-o.ensures.takes) in
    c.refused.ensures ∙ read-refused _ _ _ given c.if-c-ne0.true

pub returns-then-c-s : goal.returns-then-c-s
returns-then-c-s c =
    let given = c.read_edition-e.ensures.on (takes_fields _ c.read_settings-p.ensures c.read_totals-t.ensures c.read_accounts-a.ensures.takes c.read_invoices-i.ensures.takes c.read_offers-o.ensures.takes) in
    c.refused-then-c-s.ensures ∙ read_past _ _ _ given c.if-c-ne0.false c.if-c-s.true

pub returns-then-not-c-sound : goal.returns-then-not-c-sound
returns-then-not-c-sound c =
    let given = c.read_edition-e.ensures.on (takes_fields _ c.read_settings-p.ensures c.read_totals-t.ensures c.read_accounts-a.ensures.takes c.read_invoices-i.ensures.takes c.read_offers-o.ensures.takes) in
    let model : Model = model_from (c.read_settings-p.result.row, (c.read_totals-t.result.row, (c.read_accounts-a.ensures.all, (c.read_invoices-i.ensures.all, c.read_offers-o.ensures.all)))) in
    let made : Book = record { accounts = c.read_accounts-a.result.row; invoices = c.read_invoices-i.result.row; offers = c.read_offers-o.result.row; totals = c.read_totals-t.result.row; settings = c.read_settings-p.result.row } in
    let same : made ≡ stored model = rw (c.read_accounts-a.ensures.is, c.read_invoices-i.ensures.is, c.read_offers-o.ensures.is) in
    let k = c.read_offers-o.result.c.ok in
    let test : k && c.sound-sound.result ≡ k && book_test (stored model) = ap (λ (t : Bool). k && t) (c.sound-sound.ensures.tested ∙ ap book_test same) in
    c.refused-then-not-c-sound.ensures ∙ read_unsound _ _ model given c.if-c-ne0.false c.if-c-s.false test (not-true _ c.if-not-c-sound.true-raw)

pub returns : goal.returns
unfolding loaded_as
returns c =
    let given = c.read_edition-e.ensures.on (takes_fields _ c.read_settings-p.ensures c.read_totals-t.ensures c.read_accounts-a.ensures.takes c.read_invoices-i.ensures.takes c.read_offers-o.ensures.takes) in
    let model : Model = model_from (c.read_settings-p.result.row, (c.read_totals-t.result.row, (c.read_accounts-a.ensures.all, (c.read_invoices-i.ensures.all, c.read_offers-o.ensures.all)))) in
    let made : Book = record { accounts = c.read_accounts-a.result.row; invoices = c.read_invoices-i.result.row; offers = c.read_offers-o.result.row; totals = c.read_totals-t.result.row; settings = c.read_settings-p.result.row } in
    let same : made ≡ stored model = rw (c.read_accounts-a.ensures.is, c.read_invoices-i.ensures.is, c.read_offers-o.ensures.is) in
    let k = c.read_offers-o.result.c.ok in
    let test : k && c.sound-sound.result ≡ k && book_test (stored model) = ap (λ (t : Bool). k && t) (c.sound-sound.ensures.tested ∙ ap book_test same) in
    rw same (read_whole _ _ model given c.if-c-ne0.false c.if-c-s.false test (not-false _ c.if-not-c-sound.false-raw))
