use Rattle.std.proofs.Common.{◌≡◌, ℕ, Bool, List, ◌+◌, ◌≤◌, sym, ◌∙◌, subst, arith, length}
use borrow.Author.Tests.{not-true, not-false, ne_eqb}
use Rattle.wire.specs.FieldLaws.{begins_room}
use Rattle.codec.specs.declared.Cursor.{Cursor}
use Rattle.codec.specs.Cursor.{cursor}
use Rattle.codec.specs.Cursors.{Next, next_refused, next_wrong, next_high, next_in}
use Rattle.codec.proofs.next.Goals as goal

-- what was not refused goes on with its own code
with_code : {s : List ℕ} {c : Cursor} {tag top at x : ℕ} {ok : Bool} → c.code ≡ 0 → Next s c tag top (cursor 0 at ok x) → Next s c tag top (cursor c.code at ok x)
with_code {s} {c} {tag} {top} {at} {x} {ok} e g = let P : ℕ → Type 0 = λ n. Next s c tag top (cursor n at ok x) in subst P (sym e) g

pub returns-then-c-ne0 : goal.returns-then-c-ne0
returns-then-c-ne0 c = let a = c.args in next_refused a.s.now a.c a.tag a.top (ne_eqb a.c.code 0 c.if-c-ne0.true)

pub returns-then-not-begins : goal.returns-then-not-begins
returns-then-not-begins c =
    let a = c.args in
    next_wrong a.s.now a.c a.tag a.top c.if-c-ne0.false (sym c.begins.ensures ∙ not-true _ c.if-not-begins.true-raw)

-- past the second test a whole field is there
pub overflow_add-c : goal.overflow_add-c
overflow_add-c c =
    let a = c.args in
    let room : a.c.at + 11 ≤ length a.s.now = begins_room a.tag 8 a.c.at a.s.now (sym c.begins.ensures ∙ not-false _ c.if-not-begins.false-raw) in
    omega arith

pub overflow_add-at : goal.overflow_add-at
overflow_add-at c =
    let a = c.args in
    let room : a.c.at + 11 ≤ length a.s.now = begins_room a.tag 8 a.c.at a.s.now (sym c.begins.ensures ∙ not-false _ c.if-not-begins.false-raw) in
    omega arith

pub returns-then-top-x : goal.returns-then-top-x
returns-then-top-x c =
    let a = c.args in
    with_code c.if-c-ne0.false (next_high a.s.now a.c a.tag a.top c.if-c-ne0.false (sym c.begins.ensures ∙ not-false _ c.if-not-begins.false-raw) (rw c.number-x.ensures at c.if-top-x.true))

pub returns : goal.returns
returns c =
    let a = c.args in
    with_code c.if-c-ne0.false (next_in a.s.now a.c a.tag a.top c.if-c-ne0.false (sym c.begins.ensures ∙ not-false _ c.if-not-begins.false-raw) c.number-x.ensures c.if-top-x.false)
