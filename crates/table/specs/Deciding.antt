-- A Boolean with the equation that says what it is.
use Rattle.std.specs.Prelude.{◌≡◌, refl, Bool, true, false}

pub data Is (b : Bool) : Type 0 where
  is_true : b ≡ true → Is b
  is_false : b ≡ false → Is b

pub decide : (b : Bool) → Is b
decide true = is_true refl
decide false = is_false refl
