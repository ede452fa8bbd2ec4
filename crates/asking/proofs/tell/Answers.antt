use Rattle.std.proofs.Common.{◌≡◌, refl, ◌∙◌, arith, List, true, false, length, drop, ℕ, ◌<◌, ◌≤◌}
use Rattle.sheet.specs.SheetLaws.{retext}
use Rattle.text.specs.Walk.{item, fault}
use Rattle.text.specs.WalkLaws.{leads}
use Rattle.text.specs.Telling.{begins, goes_on, stops, ends}
use Rattle.text.specs.Reading.{line_in, question_at, line_for}
use Rattle.text.specs.LineWalk.{onward, at-end, at_line, Had, had, had_not}
use Rattle.text.specs.declared.reading.Line.{Line}
use Rattle.book.specs.Stored.{model_of}
use Rattle.asking.specs.Questions.{questions_in}
use Rattle.asking.specs.QuestionLaws.{question_is, asked_bad, asked_end}
use Rattle.asking.proofs.tell.Goals as goal

pub loop-at-init : goal.loop-at-init
unfolding questions_in
loop-at-init c = record { within = omega arith; behind = omega arith; telling = begins 0 refl }

-- the line at hand
module _ (t : List ℕ) (at : ℕ) {x : Line} (h : at < length t) (e : x ≡ line_for (line_in 1 97 128 (drop at t) at)) where
  fault-is : x.ok ≡ false → question_at t at ≡ fault
  fault-is o =
      let q = at_line 1 97 128 t at h in
      let g : x ≡ line_for (question_at t at) = rw q e in
      had_not (length t) at (question_at t at) (onward 1 97 128 t at) h g o

  module _ (o : x.ok ≡ true) where
    line-had : Had (line_in 1 97 128 (drop at t) at) x
    line-had = had _ e o

    item-is : question_at t at ≡ item line-had.parts x.next
    item-is = at_line 1 97 128 t at h ∙ line-had.is

    ahead : (at < x.next) × (x.next ≤ length t)
    ahead = leads _ _ (onward 1 97 128 t) item-is

pub returns-then-not-x : goal.returns-then-not-x
returns-then-not-x c =
    let l = c.loop-at in
    let t = c.args.s.now in
    let w = asked_bad (model_of c.args.book) t (stops (onward 1 97 128 t) l.invariant.telling (fault-is t l.at c.loop-at-test.true c.line_at-x.ensures c.if-not-x.true)) in
    ((l.pen, w.0), w.1)

pub loop-at-preserved : goal.loop-at-preserved
loop-at-preserved c =
    let l = c.loop-at in
    let t = c.args.s.now in
    let h = c.loop-at-test.true in
    let e = c.line_at-x.ensures in
    let o = c.if-not-x.false in
    let a = ahead t l.at h e o in
    record {
      within = a.1;
      behind = omega (arith, a.0, l.invariant.behind);
      telling = goes_on (onward 1 97 128 t) l.invariant.telling (item-is t l.at h e o) (retext c.put_answer-pen.ensures (question_is _ (line-had t l.at h e o)));
    }

pub loop-at-smaller : goal.loop-at-smaller
loop-at-smaller c = omega (arith, ahead c.args.s.now c.loop-at.at c.loop-at-test.true c.line_at-x.ensures c.if-not-x.false)

pub returns : goal.returns
returns c =
    let l = c.loop-at in
    let t = c.args.s.now in
    let w = asked_end (model_of c.args.book) t (ends (onward 1 97 128 t) l.invariant.telling (at-end 1 97 128 t l.at c.loop-at-test.false)) in
    (w.0, w.1.0)
