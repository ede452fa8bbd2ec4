use mathlib.Core.Path.{sym, ◌∙◌}
use borrow.Author.Tests.{not-true, not-false}
use Rattle.codec.specs.Cursors.{takes_then, takes_signed, takes_given, takes_lacking}
use Rattle.snapshot.specs.Layout.{kept}
use Rattle.snapshot.proofs.reading.read_kept.Goals as goal

pub returns-then-not-keeps_terms : goal.returns-then-not-keeps_terms
unfolding kept
returns-then-not-keeps_terms c = takes_lacking _ _ _ (sym c.keeps_terms.ensures ∙ not-true _ c.if-not-keeps_terms.true-raw)

pub returns : goal.returns
unfolding kept
returns c =
    takes_given _ _ _ (sym c.keeps_terms.ensures ∙ not-false _ c.if-not-keeps_terms.false-raw)
    (takes_then (takes_signed 0x9a c.next-amount.ensures c.of_bits.ensures) (takes_then c.next-rate.ensures.takes c.next-kind.ensures.takes))
