-- What was written stands in the buffer.
use Rattle.std.specs.Prelude.{◌≡◌, List, ℕ, ◌≤◌, leb, length}
use Rattle.std.proofs.Common.{ap, arith, leb-true}
use Rattle.refusal.specs.ChoiceLaws.{either}
use Rattle.book.specs.declared.Book.{Book}
use Rattle.book.specs.Stored.{model_of, book_test}
use Rattle.snapshot.specs.declared.Written.{Written}
use Rattle.snapshot.specs.Snapshot.{snapshot_of, writing, Saved}

within : (b : Book) (l : List ℕ) → (writing b l).0.size ≤ length l
unfolding writing
within b l =
    let Small : Written × List ℕ → Type 0 = λ x. x.0.size ≤ length l in
    either Small (book_test b) _ _ (λ t. either Small (leb (length (snapshot_of (model_of b))) (length l)) _ _ (λ e. leb-true _ _ e) (λ e. omega arith)) (λ t. omega arith)

pub saved_within : {b : Book} {l m : List ℕ} {r : Written} → Saved b l r m → r.size ≤ length l
saved_within {b} {l} s = omega (arith, within b l, ap (λ (x : Written × List ℕ). x.0.size) s.is)
