use Rattle.money.specs.Facts.{back}
use borrow.Author.Rules.{rules}
use mathlib.Core.Path.{sym, ◌∙◌}
use borrow.Author.Tests.{not-true, not-false}
use Rattle.edition.specs.Edition.{keeps_terms}
use Rattle.offer.specs.Laws.{unkept}
use Rattle.codec.specs.Puts.{as_signed, puts_then, puts_given, puts_lacking}
use Rattle.snapshot.specs.Layout.{kept}
use Rattle.snapshot.proofs.writing.put_kept.Goals as goal

pub returns-then-not-keeps_terms : goal.returns-then-not-keeps_terms
unfolding kept
returns-then-not-keeps_terms c =
    let e = sym c.keeps_terms.ensures ∙ not-true _ c.if-not-keeps_terms.true-raw in
    puts_lacking _ _ _ e (unkept (keeps_terms c.args.edition) c.args.row c.requires e)

pub returns : goal.returns
unfolding kept
returns c =
    puts_given _ _ _ (sym c.keeps_terms.ensures ∙ not-false _ c.if-not-keeps_terms.false-raw)
    (puts_then (as_signed 0x9a (back c.args.row.amount (search rules)) c.put-p.ensures)
    (puts_then c.put-q.ensures c.put.ensures))
