use Rattle.std.proofs.Common.{◌≡◌, ap, ◌*◌, ℕ, arith, List, [], ◌∷◌, length, lt-ltb, le-ltb}
use Rattle.std.proofs.Math.Bool.{not}
use Rattle.refusal.specs.Refusal.{buffer_short, book_unsound}
use Rattle.refusal.specs.RuleLaws.{refuses, goes_on, does}
use Rattle.lists.specs.Listing.{told}
use Rattle.query.specs.Questions.{threes}
use Rattle.query.specs.Asking.{length_threes}
use Rattle.query.proofs.answers.Goals as goal

pub returns-then-out-asked : goal.returns-then-out-asked
returns-then-out-asked c =
    let a = c.args in
    goes_on told book_unsound _ _ _ (ap not c.in_ok-tested.ensures.test)
    (refuses told buffer_short _ _ _ (lt-ltb (length a.out.now) (12 * length (threes a.questions.now)) (omega (arith, length_threes a.questions.now, c.if-out-asked.true))))

pub write-requires-clause-room : goal.write-requires-clause-room
write-requires-clause-room c = omega (arith, length_threes c.args.questions.now, c.if-out-asked.false)

-- the answer and the buffer
both : {n m : ℕ} {l k : List ℕ} → n ≡ m → l ≡ k → ◌≡◌ {A = List ℕ × List ℕ} (n ∷ [], l) (m ∷ [], k)
both p q = cc

pub returns : goal.returns
returns c =
    let a = c.args in
    let n = length_threes a.questions.now in
    goes_on told book_unsound _ _ _ (ap not c.in_ok-tested.ensures.test)
    (goes_on told buffer_short _ _ _ (le-ltb (length a.out.now) (12 * length (threes a.questions.now)) (omega (arith, n, c.if-out-asked.false)))
    (does told _ _ (both n c.write.ensures)))
