use Rattle.std.proofs.Common.{◌≡◌, sym, ap, ◌∙◌, ◌+◌, ℕ, List, length, get_or, drop, arith, length-drop, get_or-drop, drop-drop}
use borrow.Author.Tests.{not-true, not-false}
use Rattle.journal.specs.Table.{padded}
use Rattle.text.specs.Names.{word_of}
use Rattle.text.specs.Fields.{fields_for}
use Rattle.text.specs.FieldLaws.{few_fields}
use Rattle.text.specs.Reading.{Read, read_in, numbers_for, line_for}
use Rattle.text.specs.ReadingLaws.{tag_among, leads_room}
use Rattle.text.specs.LineReads.{numbers_there, nameless, numberless, endless, lined, by_tag_lem}
use Rattle.text.specs.declared.reading.Numbers.{Numbers}
use Rattle.text.proofs.reading.line_at.Goals as goal

-- the numbers that the code read are the line's
module _ (e k : ℕ) (s : List ℕ) (at : ℕ) {w fs : List ℕ} {x : Numbers} (v : w ≡ word_of k) (f : fs ≡ fields_for e k) (r : x ≡ numbers_for (at + length w) (read_in fs (drop (at + length w) s))) where
  abbrev line : Read
  line = numbers_there e k (drop at s) at

  read : x ≡ numbers_for (at + length (word_of k)) line
  read = rw (v, f, ← drop-drop (length (word_of k)) at s) at r

  last : {b : ℕ} → b ≡ get_or s x.next 0 → get_or (drop at s) (length (word_of k) + line.size) 0 ≡ b
  last {b} h =
      let n : at + (length (word_of k) + line.size) ≡ x.next = omega (arith, ap (λ (y : Numbers). y.next) read) in
      get_or-drop at s (length (word_of k) + line.size) 0 ∙ ap (λ (j : ℕ). get_or s j 0) n ∙ sym h

pub returns-then-tag-eq0 : goal.returns-then-tag-eq0
returns-then-tag-eq0 c =
    let a = c.args in
    c.no_line.ensures ∙ ap line_for (nameless a.edition c.tag_at-tag.result (drop a.at a.s.now) a.at c.if-tag-eq0.true ∙ by_tag_lem a.edition a.first a.past (drop a.at a.s.now) a.at c.tag_at-tag.ensures)

pub numbers_at-x-requires : goal.numbers_at-x-requires
numbers_at-x-requires c =
    let a = c.args in
    let t = drop a.at a.s.now in
    let m = tag_among a.first a.past t c.tag_at-tag.ensures (omega (arith, c.if-tag-eq0.false)) in (
      omega (arith, ap length c.word-word.ensures, leads_room (word_of c.tag_at-tag.result) t m.stands, length-drop a.at a.s.now, c.requires),
      omega (arith, ap length c.listed-tags.ensures, few_fields a.edition c.tag_at-tag.result),
    )

pub returns-then-not-x : goal.returns-then-not-x
returns-then-not-x c =
    let a = c.args in
    let k = c.tag_at-tag.result in
    let r = read a.edition k a.s.now a.at c.word-word.ensures c.listed-tags.ensures c.numbers_at-x.ensures in
    c.no_line-then-not-x.ensures
    ∙ ap line_for (numberless a.edition k (drop a.at a.s.now) a.at (ap (λ (x : Numbers). x.ok) (sym r) ∙ not-true _ c.if-not-x.true) ∙ by_tag_lem a.edition a.first a.past (drop a.at a.s.now) a.at c.tag_at-tag.ensures)

pub returns-then-byte-ne10 : goal.returns-then-byte-ne10
returns-then-byte-ne10 c =
    let a = c.args in
    let k = c.tag_at-tag.result in
    let l = last a.edition k a.s.now a.at c.word-word.ensures c.listed-tags.ensures c.numbers_at-x.ensures c.byte.ensures in
    c.no_line-then-byte-ne10.ensures
    ∙ ap line_for (endless a.edition k (drop a.at a.s.now) a.at (λ e. c.if-byte-ne10.true (sym l ∙ e)) ∙ by_tag_lem a.edition a.first a.past (drop a.at a.s.now) a.at c.tag_at-tag.ensures)

pub returns : goal.returns
returns c =
    let a = c.args in
    let k = c.tag_at-tag.result in
    let t = drop a.at a.s.now in
    let line = numbers_there a.edition k t a.at in
    let r = read a.edition k a.s.now a.at c.word-word.ensures c.listed-tags.ensures c.numbers_at-x.ensures in
    let l = last a.edition k a.s.now a.at c.word-word.ensures c.listed-tags.ensures c.numbers_at-x.ensures c.byte.ensures in
    let v : c.numbers_at-x.result.values ≡ padded line.values = ap (λ (y : Numbers). y.values) r in
    let n : c.numbers_at-x.result.next + 1 ≡ a.at + (length (word_of k) + line.size + 1) = omega (arith, ap (λ (y : Numbers). y.next) r) in
    let z =
    lined a.edition k t a.at c.if-tag-eq0.false (ap (λ (y : Numbers). y.ok) (sym r) ∙ not-false _ c.if-not-x.false) (l ∙ c.if-byte-ne10.false)
    ∙ by_tag_lem a.edition a.first a.past t a.at c.tag_at-tag.ensures in
    rw (v, n) (ap line_for z)
