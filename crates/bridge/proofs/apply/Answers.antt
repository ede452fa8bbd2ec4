use mathlib.Core.Path.{◌≡◌, sym, ap, ◌∙◌}
use Prim.Native.Nat.{ℕ}
use borrow.Author.Tests.{eq-eqb, ne_eqb}
use Rattle.refusal.specs.ChoiceLaws.{on, off}
use Rattle.command.specs.declared.Command.{Command}
use Rattle.journal.specs.Answers.{Reading, found, refused, ended, reading}
use Rattle.book.specs.declared.Book.{Book}
use Rattle.book.specs.declared.Step.{Step}
use Rattle.book.specs.Stored.{answers}
use Rattle.bridge.specs.Whole.{refused_by, whole_record}
use Rattle.bridge.proofs.apply.Goals as goal

module _ (b : Book) (n : ℕ) {d : Reading} {z : Step} where
  -- a record that ends where the bytes do, one that ends elsewhere, and bytes that hold none
  whole : {c : Command} {next : ℕ} → d ≡ found c next → next ≡ n → z ≡ answers b c → z ≡ whole_record b d n
  unfolding whole_record
  whole e q h = rw e (on _ (eq-eqb _ _ q) h)

  part : {c : Command} {next : ℕ} → d ≡ found c next → (next ≡ n → ⊥) → z ≡ refused_by b → z ≡ whole_record b d n
  unfolding whole_record
  part e q h = rw e (off _ (ne_eqb _ _ q) h)

  faulty : {k at : ℕ} → d ≡ refused k at → z ≡ refused_by b → z ≡ whole_record b d n
  unfolding whole_record
  faulty e h = rw e h

  empty : d ≡ ended → z ≡ refused_by b → z ≡ whole_record b d n
  unfolding whole_record
  empty e h = rw e h

pub returns-then-next-s : goal.returns-then-next-s
returns-then-next-s c = part _ _ (sym c.decode-d.ensures ∙ ap reading c.in-Command.is) c.if-next-s.true c.malformed.ensures

pub returns-in-Command : goal.returns-in-Command
returns-in-Command c = whole _ _ (sym c.decode-d.ensures ∙ ap reading c.in-Command.is) c.if-next-s.false c.apply.ensures

pub returns-in-Malformed : goal.returns-in-Malformed
returns-in-Malformed c = faulty _ _ (sym c.decode-d.ensures ∙ ap reading c.in-Malformed.is) c.malformed-in-Malformed.ensures

pub returns-in-End : goal.returns-in-End
returns-in-End c = empty _ _ (sym c.decode-d.ensures ∙ ap reading c.in-End.is) c.malformed-in-End.ensures
