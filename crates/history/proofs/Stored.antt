-- The same of the code: what its calls leave, its figures and its invoices.
use Rattle.std.specs.Prelude.{ℕ, ◌≡◌, true, List, []}
use Rattle.std.proofs.Common.{sym, ap, subst, ◌∙◌}
use Rattle.command.specs.declared.Command.{Command}
use Rattle.edition.specs.Edition.{listed}
use Rattle.rules.specs.Model.{Model, fresh_model, invoice_in}
use Rattle.invoice.specs.Invoice.{invoice_pending}
use Rattle.book.specs.declared.Book.{Book}
use Rattle.book.specs.Stored.{model_of, stored, book_test}
use Rattle.book.specs.Shelving.{back, model_stored}
use Rattle.book.specs.Tested.{shelved_of}
use Rattle.soundness.specs.Sound.{fresh_model_lem}
use Rattle.soundness.specs.Played.{played, called, accepted_by}
use Rattle.soundness.specs.Books.{Typed, model_sound, played_sound}
use Rattle.soundness.specs.Calls.{called_played}
use Rattle.history.specs.Run.{from}
use Rattle.history.proofs.RunLaws.{run_played, run_accepted}
use Rattle.history.specs.Since.{MeetsSince}
use Rattle.history.specs.Meets.{Meets}
use Rattle.history.proofs.Demand.{since, demand-3}
use Rattle.history.proofs.Pending.{never_pending}

-- the book that any commands leave of a fresh one
pub stored_meets : (edition : ℕ) → listed edition ≡ true → (cs : List Command) (b : Book) → b ≡ stored (played (fresh_model edition) cs) → Meets (from (fresh_model edition) cs).history (model_of b)
stored_meets edition l cs b e =
    subst (λ (m : Model). Meets (from (fresh_model edition) cs).history m)
    (run_played (record { history = []; model = fresh_model edition }) cs ∙ sym (ap (λ z. model_of z) e ∙ model_stored (played_sound (fresh_model_lem edition l) cs).fits))
    (demand-3 edition l cs)

-- demand 3 of calls: a fresh book, then any commands by `Book::apply`, each on the book that the one before gave back; accepted are those that
-- these calls answered by 0
pub calls_meet : (e : ℕ) → listed e ≡ true → (cs : List Command) → Meets (accepted_by [] (stored (fresh_model e)) cs) (model_of (called (stored (fresh_model e)) cs))
calls_meet e l cs =
    subst (λ h. Meets h (model_of (called (stored (fresh_model e)) cs))) (run_accepted (fresh_model_lem e l) [] cs)
    (stored_meets e l cs (called (stored (fresh_model e)) cs) (called_played (fresh_model_lem e l) cs))

-- ── From any sound book ───────────────────────────────────────────
module _ (b : Book) (y : Typed b) (e : book_test b ≡ true) (cs : List Command) where
  as_stored : b ≡ stored (model_of b)
  as_stored = back (shelved_of b y.accounts y.invoices y.offers e)

  leave : (from (model_of b) cs).model ≡ model_of (called b cs)
  leave =
      let s = model_sound b y e in
      run_played (record { history = []; model = model_of b }) cs
      ∙ sym (ap (λ z. model_of (called z cs)) as_stored ∙ ap (λ z. model_of z) (called_played s cs) ∙ model_stored (played_sound s cs).fits)

  accept : (from (model_of b) cs).history ≡ accepted_by [] b cs
  accept = run_accepted (model_sound b y e) [] cs ∙ sym (ap (λ z. accepted_by [] z cs) as_stored)

  -- its figures and the sums over what is accepted after it
  pub calls_since : MeetsSince (model_of b) (accepted_by [] b cs) (model_of (called b cs))
  calls_since =
      subst (λ h. MeetsSince (model_of b) h (model_of (called b cs))) accept
      (subst (λ (m : Model). MeetsSince (model_of b) (from (model_of b) cs).history m) leave (since (model_of b) (model_sound b y e) cs))

  -- an invoice that is not Pending is not Pending after them
  pub calls_never_pending : (i : ℕ) → ((invoice_in (model_of b) i).row.status ≡ invoice_pending → ⊥) → (invoice_in (model_of (called b cs)) i).row.status ≡ invoice_pending → ⊥
  calls_never_pending i h k = never_pending (model_of b) (model_sound b y e) i h cs (ap (λ (m : Model). (invoice_in m i).row.status) leave ∙ k)
