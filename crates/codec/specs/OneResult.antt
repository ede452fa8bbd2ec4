-- What a contract of this crate says leaves one result: any two that it allows coincide.
use Rattle.std.specs.Prelude.{◌≡◌, Bool, List, [], ℕ, ◌^◌, ◌<◌, ◌++◌, drop}
use Rattle.std.proofs.Common.{sym, ap, ◌∙◌}
use Rattle.wire.specs.Field.{field_of, bytes_of, number_at}
use Rattle.wire.specs.FieldTrip.{body_past, number_past}
use Rattle.sheet.specs.declared.Pen.{Pen}
use Rattle.sheet.specs.Sheet.{sheet}
use Rattle.codec.specs.declared.Cursor.{Cursor}
use Rattle.codec.specs.Codec.{Codec}
use Rattle.codec.specs.Cursors.{Next, Count}
use Rattle.codec.specs.Puts.{Puts, Held}

pub one_next : {s : List ℕ} {c r t : Cursor} {tag top : ℕ} → Next s c tag top r → Next s c tag top t → r ≡ t
one_next n m = n.is ∙ sym m.is

pub one_count : {s : List ℕ} {c r t : Cursor} {tag most : ℕ} → Count s c tag most r → Count s c tag most t → r ≡ t
one_count n m = n.is ∙ sym m.is

pub one_put : {A : Type 0} {ink : Bool} {a : Codec A} {x : A} {l m n : List ℕ} {p q r : Pen} → Puts ink a x l p m q → Puts ink a x l p n r → sheet m q ≡ sheet n r
one_put g h = g.wrote.is ∙ sym h.wrote.is

-- a word is read back from its field
told : (n : ℕ) → n < 2 ^ 64 → number_at 8 (drop 3 (field_of 0 (bytes_of 8 n) ++ [])) ≡ n
told n h = ap (number_at 8) (body_past 0 (bytes_of 8 n) []) ∙ number_past 8 n [] h

pub one_held : {A : Type 0} {column : ℕ → Codec A} {x : A} {w v : ℕ} → w < 2 ^ 64 → v < 2 ^ 64 → Held column x w → Held column x v → w ≡ v
one_held {w = w} {v = v} h k f g = sym (told w h) ∙ ap (λ l. number_at 8 (drop 3 (l ++ []))) (sym (f.out 0) ∙ g.out 0) ∙ told v k
