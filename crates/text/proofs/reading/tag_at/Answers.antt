use Rattle.std.proofs.Common.{sym, ◌∙◌, refl, drop}
use Rattle.text.specs.Reading.{tag_in}
use Rattle.text.specs.ReadingLaws.{tag_here, tag_on, no_tag}
use Rattle.text.proofs.reading.tag_at.Goals as goal

pub loop-k-init : goal.loop-k-init
unfolding tag_in
loop-k-init c = refl

pub returns-then-named : goal.returns-then-named
returns-then-named c = sym (c.loop-k.invariant ∙ tag_here c.args.past (drop c.args.at c.args.s.now) c.loop-k.k c.loop-k-test.true (sym c.named.ensures ∙ c.if-named.true))

pub loop-k-preserved : goal.loop-k-preserved
loop-k-preserved c = c.loop-k.invariant ∙ tag_on c.args.past (drop c.args.at c.args.s.now) c.loop-k.k c.loop-k-test.true (sym c.named.ensures ∙ c.if-named.false)

pub returns : goal.returns
returns c = sym (c.loop-k.invariant ∙ no_tag c.args.past (drop c.args.at c.args.s.now) c.loop-k.k c.loop-k-test.false)
