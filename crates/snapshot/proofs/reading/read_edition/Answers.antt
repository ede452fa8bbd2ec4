use mathlib.Core.Path.{refl, sym, ◌∙◌}
use native.Mathlib.Omega.{arith}
use borrow.Author.Tests.{not-true, not-false}
use Rattle.snapshot.specs.Answers.{opens_unnamed, opens_listed, opens_unlisted, past_unlisted}
use Rattle.snapshot.proofs.reading.read_edition.Goals as goal

pub returns-then-not-begins : goal.returns-then-not-begins
returns-then-not-begins c = rw c.start-start.ensures (opens_unnamed _ (sym c.begins.ensures ∙ not-true _ c.if-not-begins.true-raw))

pub returns-then-c-gt-HALF : goal.returns-then-c-gt-HALF
returns-then-c-gt-HALF c = rw c.unlisted.ensures (opens_unlisted _ (rw c.start-start.ensures at c.next-c.ensures) (sym c.begins.ensures ∙ not-false _ c.if-not-begins.false-raw) (past_unlisted _ (omega (arith, c.if-c-gt-HALF.true))))

pub returns-then-not-is_listed : goal.returns-then-not-is_listed
returns-then-not-is_listed c = rw c.unlisted-then-not-is_listed.ensures (opens_unlisted _ (rw c.start-start.ensures at c.next-c.ensures) (sym c.begins.ensures ∙ not-false _ c.if-not-begins.false-raw) (sym c.is_listed.ensures ∙ not-true _ c.if-not-is_listed.true-raw))

pub returns : goal.returns
returns c = opens_listed _ (rw c.start-start.ensures at c.next-c.ensures) (sym c.begins.ensures ∙ not-false _ c.if-not-begins.false-raw) refl (sym c.is_listed.ensures ∙ not-false _ c.if-not-is_listed.false-raw)
