-- The fields of a book, one after the other.
use Rattle.std.specs.Prelude.{List, ℕ}
use Rattle.std.proofs.Common.{refl}
use Rattle.table.specs.Tables.{Table}
use Rattle.settings.specs.declared.Settings.{Settings}
use Rattle.totals.specs.declared.Totals.{Totals}
use Rattle.account.specs.declared.Account.{Account}
use Rattle.invoice.specs.declared.Invoice.{Invoice}
use Rattle.offer.specs.declared.Deal.{Deal}
use Rattle.codec.specs.declared.Cursor.{Cursor}
use Rattle.codec.specs.Codec.{rows}
use Rattle.codec.specs.Cursors.{Takes, takes_then, takes_via}
use Rattle.snapshot.specs.Layout.{settings, totals, account, invoice, deal, fields, model_from, model_parts}

pub takes_fields : (n : ℕ) {s : List ℕ} {c d e f g h : Cursor} {p : Settings} {t : Totals} {a : Table Account} {i : Table Invoice} {o : Table Deal}
    → Takes s c (settings n) d p → Takes s d totals e t → Takes s e (rows 0x70 64 account) f a → Takes s f (rows 0x80 64 invoice) g i → Takes s g (rows 0x90 64 (deal n)) h o
    → Takes s c (fields n) h (model_from (p, (t, (a, (i, o)))))
unfolding fields
takes_fields n p t a i o = takes_via model_from model_parts (λ x _. refl) (takes_then p (takes_then t (takes_then a (takes_then i o))))
