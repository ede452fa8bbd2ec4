-- Each contract of this crate is an equation, so any two results that it allows for the same arguments coincide.
use Rattle.std.specs.Prelude.{◌≡◌, Bool, List, ℕ, take}
use Rattle.std.proofs.Common.{sym, ◌∙◌}
use Rattle.std.specs.Prelude.{Result}
use Rattle.table.specs.Find.{find_in}
use Rattle.table.specs.Test.{ids_test}

pub one_result : {A : Type 0} {x y z : A} → x ≡ z → y ≡ z → x ≡ y
one_result p q = p ∙ sym q

pub one_find : {r s : Result ℕ ℕ} (ids : List ℕ) (len id : ℕ) → r ≡ find_in (take len ids) id → s ≡ find_in (take len ids) id → r ≡ s
one_find ids len id p q = one_result p q

pub one_ids_sound : {r s : Bool} (ids : List ℕ) (len : ℕ) → r ≡ ids_test 64 len ids → s ≡ ids_test 64 len ids → r ≡ s
one_ids_sound ids len p q = one_result p q
