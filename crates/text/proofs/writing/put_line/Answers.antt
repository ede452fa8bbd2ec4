use Rattle.std.proofs.Common.{ap, List, ℕ, length, arith}
use Rattle.sheet.specs.SheetLaws.{next, retext}
use Rattle.text.specs.FieldLaws.{few_fields}
use Rattle.text.specs.Line.{numerals_of, line_of}
use Rattle.text.proofs.writing.put_line.Goals as goal

pub put_numerals-q-requires : goal.put_numerals-q-requires
put_numerals-q-requires c = omega (arith, ap length c.listed.ensures, few_fields c.args.edition c.args.tag)

pub returns : goal.returns
unfolding line_of
returns c =
    next (retext c.put-put.ensures c.word.ensures)
    (next (retext c.put_numerals-q.ensures (ap (λ (l : List ℕ). numerals_of l c.args.numbers) c.listed.ensures)) c.put.ensures)
