use Rattle.std.proofs.Common.{◌≡◌, ℕ, true, sym, ◌∙◌, arith}
use borrow.Author.Tests.{not-true, not-false}
use Rattle.book.specs.Stored.{book_test}
use Rattle.snapshot.specs.Answers.{write_unsound, write_short, write_room, write_whole}
use Rattle.snapshot.proofs.write.Goals as goal

pub returns-then-not-sound : goal.returns-then-not-sound
returns-then-not-sound c = record {
  is = write_unsound _ _ (sym c.sound.ensures.tested ∙ not-true _ c.if-not-sound.true-raw);
  fits = λ z. let y : ◌≡◌ {A = ℕ} 15 0 = z in absurd (omega (arith, y));
  shelved = λ z. let y : ◌≡◌ {A = ℕ} 15 0 = z in absurd (omega (arith, y));
  room = λ h z. let y : ◌≡◌ {A = ℕ} 15 14 = z in omega (arith, y);
}

pub returns-then-dry : goal.returns-then-dry
returns-then-dry c =
    let tested : book_test c.args.book ≡ true = sym c.sound.ensures.tested ∙ not-false _ c.if-not-sound.false-raw in
    record {
      is = write_short _ _ tested c.put_book-dry.ensures c.if-dry.true;
      fits = λ z. let y : ◌≡◌ {A = ℕ} 14 0 = z in absurd (omega (arith, y));
      shelved = λ z. let y : ◌≡◌ {A = ℕ} 14 0 = z in absurd (omega (arith, y));
      room = λ h z. write_room _ _ tested c.put_book-dry.ensures c.if-dry.true h;
    }

pub returns : goal.returns
returns c =
    let tested : book_test c.args.book ≡ true = sym c.sound.ensures.tested ∙ not-false _ c.if-not-sound.false-raw in
    record {
      is = write_whole _ _ tested c.put_book-dry.ensures c.if-dry.false c.put_book-wet.ensures;
      fits = λ z. c.put_book-wet.ensures.fits;
      shelved = λ z. c.sound.ensures.shelved (not-false _ c.if-not-sound.false-raw);
      room = λ h z. let y : ◌≡◌ {A = ℕ} 0 14 = z in omega (arith, y);
    }
