use Rattle.std.proofs.Common.{ℕ, List, replicate, sym, length-take-le}
use Rattle.journal.specs.Format.{record_of}
use Rattle.sheet.specs.SheetLaws.{retext}
use Rattle.text.specs.RecordLaws.{record_room, not_short, count-is, taken}
use Rattle.text.proofs.put_record.Goals as goal

abbrev zeros : List ℕ
zeros = replicate 102 0

pub returns-in_default : goal.returns-in_default
returns-in_default c =
    let a = c.args in
    absurd (not_short (record_of a.edition a.tag a.numbers) zeros (record_room a.edition a.tag a.numbers) c.encode_parts.ensures.0 c.in_default.is)

pub slice_bounds-bytes-end : goal.slice_bounds-bytes-end
slice_bounds-bytes-end c =
    let a = c.args in
    let w = record_of a.edition a.tag a.numbers in
    let room = record_room a.edition a.tag a.numbers in
    (taken w zeros room c.encode_parts.ensures.1 (count-is w zeros room c.encode_parts.ensures.0 c.in-Ok.is)).0

pub slice_bounds-put-end : goal.slice_bounds-put-end
slice_bounds-put-end c =
    let a = c.args in
    let w = record_of a.edition a.tag a.numbers in
    let room = record_room a.edition a.tag a.numbers in
    sym (length-take-le c.in-Ok.size c.encode_parts.new.out (taken w zeros room c.encode_parts.ensures.1 (count-is w zeros room c.encode_parts.ensures.0 c.in-Ok.is)).0)

pub returns : goal.returns
returns c =
    let a = c.args in
    let w = record_of a.edition a.tag a.numbers in
    let room = record_room a.edition a.tag a.numbers in
    retext c.put.ensures (taken w zeros room c.encode_parts.ensures.1 (count-is w zeros room c.encode_parts.ensures.0 c.in-Ok.is)).1
