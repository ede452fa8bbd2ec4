-- What both walks keep: they stand within the journal, and the book's arrays are tables. Assumes nothing.
use Rattle.std.specs.Prelude.{◌≡◌, refl, Bool, true, false, List, ℕ, ◌+◌, ◌≤◌, eqb, length}
use Rattle.std.proofs.Common.{ap, arith, eqb-true}
use Rattle.refusal.specs.Choice.{pick}
use Rattle.refusal.specs.Rule.{after, answered}
use Rattle.table.specs.Tables.{keys}
use Rattle.command.specs.declared.Command.{Command}
use Rattle.journal.specs.Answers.{found}
use Rattle.journal.specs.Format.{read_at}
use Rattle.book.specs.declared.Book.{Book}
use Rattle.book.specs.declared.Step.{Step}
use Rattle.rules.specs.Model.{Model, fresh_model}
use Rattle.rules.specs.Rules.{commanded}
use Rattle.command.specs.Shape.{shape_of}
use Rattle.book.specs.Stored.{model_of, stored, step_of, Shelved}
use Rattle.book.specs.Shelving.{fits_of, shelved_stored, model_stored}
use Rattle.rules.specs.Fitting.{Fits, fits_kept}
use Rattle.soundness.specs.Played.{answer_to, obeyed}
use Rattle.replay.specs.Ahead.{ahead}

-- ── The book ──────────────────────────────────────────────────────
fresh_fits : (e : ℕ) → Fits (fresh_model e)
unfolding keys
fresh_fits e = record {
  accounts = record { fits = omega arith; rises = tt };
  invoices = record { fits = omega arith; rises = tt };
  offers = record { fits = omega arith; rises = tt };
}

-- a book that holds a model: it is shelved, and its model is that
pub record Holds (m : Model) (b : Book) : Type 0 where
  pub shelved : Shelved b
  pub model : model_of b ≡ m

pub holds : {m : Model} {b : Book} → Fits m → b ≡ stored m → Holds m b
holds f q = record { shelved = rw q (shelved_stored f); model = rw q (model_stored f) }

-- a shelved book holds its own model
pub held : {b : Book} → Shelved b → Holds (model_of b) b
held k = record { shelved = k; model = refl }

pub fresh : {e : ℕ} {b : Book} → b ≡ stored (fresh_model e) → Holds (fresh_model e) b
fresh {e} q = holds (fresh_fits e) q

fits_by : {m : Model} (c : Command) (t : Bool) → eqb (answer_to m c) 0 ≡ t → Fits m → Fits (pick t (commanded m c).done m)
unfolding pick
fits_by c true e f = fits_kept f (shape_of c) (eqb-true _ 0 e)
fits_by c false e f = f

fits_obeyed : {m : Model} (c : Command) → Fits m → Fits (obeyed m c)
unfolding after
fits_obeyed {m} c f = fits_by c (eqb (answer_to m c) 0) refl f

-- what a step on a shelved book answers and leaves
pub record Stepped (m : Model) (c : Command) (t : Step) : Type 0 where
  pub answer : t.answer ≡ answer_to m c
  pub shelved : Shelved t.book
  pub model : model_of t.book ≡ obeyed m c

pub stepped : {b : Book} {c : Command} {t : Step} → Shelved b → t ≡ answered step_of (model_of b) (commanded (model_of b) c) → Stepped (model_of b) c t
unfolding answered
stepped {b} {c} k e =
    let f = fits_obeyed c (fits_of k) in
    record { answer = ap (λ (x : Step). x.answer) e; shelved = rw e (shelved_stored f); model = rw e (model_stored f) }

-- ── The place ─────────────────────────────────────────────────────
pub record Standing (s : List ℕ) (at k : ℕ) (b : Book) : Type 0 where
  pub few : k ≤ at
  pub within : at ≤ length s
  pub shelved : Shelved b

pub stands : {s : List ℕ} {at : ℕ} {m : Model} {b : Book} → at ≤ length s → Holds m b → Standing s at 0 b
stands h f = record { few = omega arith; within = h; shelved = f.shelved }

pub stands_on : {s : List ℕ} {at k : ℕ} {b : Book} {m : Model} {c : Command} {next : ℕ} {t : Step}
    → Standing s at k b → read_at m.settings.edition s at ≡ found c next → Stepped m c t → Standing s next (k + 1) t.book
stands_on {s} {at} {m = m} i d e = let g = ahead m.settings.edition s at d in record { few = omega (arith, g.0, i.few); within = g.1; shelved = e.shelved }
