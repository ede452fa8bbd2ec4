use mathlib.Core.Path.{refl}
use Rattle.codec.specs.Puts.{puts_then, puts_via, puts_led}
use Rattle.edition.specs.Edition.{listed}
use Rattle.book.specs.Tested.{tests_of}
use Rattle.snapshot.specs.Layout.{fields, edition_in, of_edition, layout, model_from, model_parts}
use Rattle.snapshot.specs.Answers.{edition_listed, few_accounts, few_invoices}
use Rattle.snapshot.proofs.writing.put_book.Goals as goal

pub put_accounts-u-requires : goal.put_accounts-u-requires
put_accounts-u-requires c = few_accounts _ (tests_of _ c.requires).accounts

pub put_invoices-v-requires : goal.put_invoices-v-requires
put_invoices-v-requires c = few_invoices _ (tests_of _ c.requires).invoices

pub put_offers-requires : goal.put_offers-requires
put_offers-requires c = (tests_of _ c.requires).offers

pub returns : goal.returns
unfolding layout fields
returns c =
    puts_led 0x10 listed edition_in fields of_edition (edition_listed _ (tests_of _ c.requires).settings)
    c.put-e.ensures
    (puts_via model_from model_parts (λ x _. refl) refl (puts_then c.put_settings-p.ensures (puts_then c.put_totals-q.ensures (puts_then c.put_accounts-u.ensures (puts_then c.put_invoices-v.ensures c.put_offers.ensures)))))
