-- The commands of the journal of commands are these, and its edition is theirs.
use Rattle.std.specs.Prelude.{◌≡◌, true, length}
use Rattle.std.proofs.Math.Path.{refl}
use Rattle.std.proofs.Common.{sym, ap, ◌∙◌}
use mathlib.Core.List.{List, [], ◌∷◌, ◌++◌, append_assoc}
use Prim.Native.Nat.{ℕ, zero, suc, ◌+◌, ◌≤◌}
use native.Mathlib.Omega.{arith}
use Rattle.std.proofs.Math.ListN.{length-append}
use borrow.Author.Tests.{eq-eqb, le-leb}
use Rattle.refusal.specs.Choice.{pick}
use Rattle.refusal.specs.ChoiceLaws.{pick_on}
use Rattle.edition.specs.Edition.{listed}
use Rattle.command.specs.declared.Command.{Command}
use Rattle.journal.specs.Answers.{found, ended}
use Rattle.journal.specs.Format.{header_of, read_at, bytes_for}
use Rattle.journal.specs.Held.{Held}
use Rattle.journal.specs.RoundTrip.{header_long, header_back, read_back}
use Rattle.journal.specs.WriteLaws.{length_for}
use Rattle.replay.specs.Replay.{headed, edition_of}
use Rattle.replay.specs.Heading.{edition_good}
use Rattle.corollary.specs.Journals.{commands_by, commands_on, commands_in, records_of, journal_of, AllHeld}

pub none_left : (e : ℕ) (p : List ℕ) → read_at e (p ++ []) (length p) ≡ ended
unfolding read_at
none_left e p = pick_on _ _ (le-leb (length (p ++ [])) (length p) (omega (arith, length-append p [])))

-- a record is read, and the rest stands after it
pub record Leads (e : ℕ) (c : Command) (p r : List ℕ) : Type 0 where
  pub reads : read_at e (p ++ (bytes_for e c ++ r)) (length p) ≡ found c (length (p ++ bytes_for e c))
  pub rest : p ++ (bytes_for e c ++ r) ≡ (p ++ bytes_for e c) ++ r

pub leads : (e : ℕ) (c : Command) (p r : List ℕ) → Held e c → Leads e c p r
leads e c p r h = record { reads = rw (length-append p (bytes_for e c)) (read_back e c p r h); rest = sym (append_assoc p (bytes_for e c) r) }

module _ (e : ℕ) where
  commands_back : (cs : List Command) (n : ℕ) (p : List ℕ) → AllHeld e cs → length cs ≤ n → commands_by e n (p ++ records_of e cs) (length p) ≡ cs
  unfolding commands_by records_of AllHeld
  commands_back [] zero p h k = refl
  commands_back [] (suc n) p h k = rw (none_left e p)
  commands_back (c ∷ cs) zero p h k = absurd (omega arith)
  commands_back (c ∷ cs) (suc n) p h k =
      let l = leads e c p (records_of e cs) h.0 in
      rw (l.reads, l.rest) (ap (λ r. c ∷ r) (commands_back cs n (p ++ bytes_for e c) h.1 (omega arith)))

  -- fewer commands than bytes
  fewer : (cs : List Command) → length cs ≤ length (records_of e cs)
  unfolding records_of
  fewer [] = omega arith
  fewer (c ∷ cs) = omega (arith, fewer cs, length_for e c, length-append (bytes_for e c) (records_of e cs))

  pub enough_bytes : (cs : List Command) → length cs ≤ length (journal_of e cs)
  unfolding journal_of
  enough_bytes cs = omega (arith, fewer cs, length-append (header_of e) (records_of e cs))

  pub commands_on_journal : listed e ≡ true → (cs : List Command) → AllHeld e cs → commands_on e (journal_of e cs) ≡ cs
  unfolding commands_on headed journal_of pick
  commands_on_journal l cs h = rw (header_back e (records_of e cs) l, eq-eqb e e refl) (rw (header_long e) at (commands_back cs (length (journal_of e cs)) (header_of e) h (enough_bytes cs)))

  pub edition_of_journal : listed e ≡ true → (cs : List Command) → edition_of (journal_of e cs) ≡ e
  unfolding journal_of
  edition_of_journal l cs = edition_good (journal_of e cs) (header_back e (records_of e cs) l)

  pub commands_of_journal : listed e ≡ true → (cs : List Command) → AllHeld e cs → commands_in (journal_of e cs) ≡ cs
  commands_of_journal l cs h = ap (λ x. commands_on x (journal_of e cs)) (edition_of_journal l cs) ∙ commands_on_journal l cs h
