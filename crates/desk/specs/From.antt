-- From any sound book a journal of 32,768 bytes has its listing in 40,960.
use Rattle.std.specs.Prelude.{◌≡◌, true, List, ℕ, ◌≤◌, length}
use Rattle.std.proofs.Common.{◌∙◌, arith, le-leb}
use Rattle.refusal.specs.ChoiceLaws.{pick_on}
use Rattle.sheet.specs.Shown.{listed_in, shown_in}
use Rattle.book.specs.declared.Book.{Book}
use Rattle.book.specs.Stored.{model_of, book_test}
use Rattle.replay.specs.declared.Listed.{Listed}
use Rattle.replay.specs.declared.Listed.TheVariants.{Done}
use Rattle.replay.specs.Text.{listing_on, listing_says, listed_from, shown_from}
use Rattle.replay.specs.Bounded.{Bounded}
use Rattle.replay.specs.Shown.{same_listed}
use Rattle.replay.proofs.Room.{listing_room, listing_most}

pub from_room : (b : Book) (s : List ℕ) → Bounded (model_of b) → length s ≤ 32768 → length (listing_on (model_of b) s) ≤ 40960
unfolding listing_room
from_room b s d h = omega (arith, listing_most s (omega arith) (model_of b) d)

-- so `listing_from` is never short there, and writes the whole
pub never_short : (b : Book) (s l : List ℕ) {x : Listed} → Bounded (model_of b) → book_test b ≡ true → length s ≤ 32768 → length l ≡ 40960
    → listing_says x ≡ listed_from b s l → x ≡ Done (length (listing_on (model_of b) s))
unfolding listed_from listed_in
never_short b s l {x} d t h e p =
    same_listed x (Done (length (listing_on (model_of b) s))) (p ∙ pick_on _ _ t ∙ pick_on _ _ (le-leb (length (listing_on (model_of b) s)) (length l) (omega (arith, from_room b s d h))))

pub shown : (b : Book) (s l : List ℕ) → book_test b ≡ true → shown_from b s l ≡ shown_in (listing_on (model_of b) s) l
unfolding shown_from
shown b s l t = pick_on _ _ t
