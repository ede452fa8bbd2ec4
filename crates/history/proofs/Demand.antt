-- Demand 3: from a fresh book, after any commands, every figure of the book is the history's. From any sound book: its figures, and the sums over what is accepted after it.
use Rattle.std.specs.Prelude.{ℕ, ◌≡◌, refl, true, List, [], ◌∷◌, pos, ◌+ℤ◌}
use Rattle.std.proofs.Common.{arith, sym, subst, ◌∙◌}
use Rattle.std.proofs.Math.IntN.{+ℤ_idl}
use Rattle.table.specs.Tables.{Found, absent, here, Table, find, keys}
use Rattle.table.specs.Sound.{All}
use Rattle.table.proofs.Sound.{all_found}
use Rattle.negotiation.specs.Rounds.{round_slots}
use Rattle.negotiation.specs.Whole.{Whole}
use Rattle.negotiation.specs.Laws.{none_whole}
use Rattle.offer.specs.Seen.{seen_deal}
use Rattle.offer.specs.Laws.{DealKept}
use Rattle.offer.specs.declared.Deal.{Deal}
use Rattle.account.specs.declared.Account.{Account}
use Rattle.command.specs.declared.Command.{Command}
use Rattle.edition.specs.Edition.{listed}
use Rattle.rules.specs.Model.{Model, fresh_model}
use Rattle.rules.specs.Rules.{commanded}
use Rattle.command.specs.Shape.{shape_of}
use Rattle.soundness.specs.Sound.{ModelSound, fresh_model_lem}
use Rattle.seats.specs.Seats.{bit}
use Rattle.history.specs.History.{entry_of, Said, silence, read_after, read, sum, offered, accepted, balance, financed, together}
use Rattle.history.specs.Since.{deeds_before, originators_before, said_before, read_since, MeetsSince}
use Rattle.history.specs.Passed.{Passes}
use Rattle.history.specs.Ledger.{Ledger, accepted_in, start, ledger}
use Rattle.history.specs.Agrees.{Agrees, Rounds, begins}
use Rattle.history.proofs.Keeps.{keeps}
use Rattle.history.proofs.Reading.{Reads, reads_post}
use Rattle.history.proofs.Fair.{Sums, sums_post}
use Rattle.history.specs.Listed.{Listed, account_here, offer_here, listed_after}
use Rattle.history.proofs.Accepted.{Late, fair}
use Rattle.history.specs.Before.{base}
use Rattle.history.proofs.Before.{reads_before, sums_before, keys_once, still_closed}
use Rattle.history.specs.Run.{from}
use Rattle.history.proofs.RunLaws.{kept_run}
use Rattle.history.specs.Meets.{Meets}

-- ── The book, the ledger and the history together ─────────────────
-- after h from s; r is what was said, before s and by h
pub record Holds (s : Model) (h : List Command) (r : Said) (m : Model) : Type 0 where
  pub agrees : Agrees (ledger (start s) h) m
  pub reads : Reads (base s) (ledger (start s) h) r
  pub sums : Sums (base s) (ledger (start s) h) r
  pub lists : Listed r m
  pub late : Late (base s) r

abbrev HoldsSince : Model → List Command → Model → Type 0
HoldsSince s h m = Holds s h (read_since s h) m

holds_next : (s : Model) (h : List Command) (m : Model) (c : Command) → HoldsSince s h m → Passes (commanded m c).checks → HoldsSince s (c ∷ h) (commanded m c).done
unfolding ledger read_after
holds_next s h m c H p = record {
  agrees = keeps H.agrees (shape_of c) p;
  reads = reads_post H.reads (entry_of c);
  sums = sums_post H.reads H.sums (entry_of c) (fair H.agrees H.reads H.lists H.late (shape_of c) p);
  lists = listed_after H.lists (shape_of c) p;
  late = λ a z. H.late a (still_closed (entry_of c) (read_since s h) a z);
}

whole_rounds : (n : ℕ) (t : Table Deal) → All (DealKept n) t → Rounds t
whole_rounds n t k o = go (find t o) refl
  where
    go : (f : Found Deal) → find t o ≡ f → Whole round_slots (seen_deal f).row.negotiation
    go absent e = none_whole
    go (here d) e = (all_found (DealKept n) t o d k e).whole

unopened : (f : Found Account) → bit (account_here f) ≡ 0 → accepted_in f ≡ pos 0
unopened absent e = refl
unopened (here r) e = absurd (omega (arith, e))

holds-first : (s : Model) → ModelSound s → HoldsSince s [] s
unfolding ledger read_after
holds-first s y = record {
  agrees = begins s (whole_rounds s.settings.edition s.offers y.offers);
  reads = reads_before s;
  sums = sums_before s;
  lists = record {
    accounts = keys_once account_here (λ r. refl) refl s.accounts y.fits.accounts.rises;
    offers = keys_once offer_here (λ d. refl) refl s.offers y.fits.offers.rises;
    room = y.fits.accounts.fits;
  };
  late = λ a z. unopened (find s.accounts a) (sym (keys_once account_here (λ r. refl) refl s.accounts y.fits.accounts.rises a) ∙ z);
}

pub holds_since : (s : Model) → ModelSound s → (cs : List Command) → HoldsSince s (from s cs).history (from s cs).model
holds_since s y cs = kept_run (HoldsSince s) (holds_next s) (record { history = []; model = s }) (holds-first s y) cs

-- ── From any sound book ───────────────────────────────────────────
pub since : (s : Model) → ModelSound s → (cs : List Command) → MeetsSince s (from s cs).history (from s cs).model
since s y cs =
    let H = holds_since s y cs in
    record {
      offereds = λ a. H.agrees.purses.offereds a ∙ H.sums.offereds a;
      accepteds = λ a. H.agrees.purses.accepteds a ∙ H.reads.accepteds a;
      balances = λ a. H.agrees.purses.balances a ∙ H.reads.balances a;
      all_balances = H.agrees.purses.together ∙ H.reads.together;
      financed_total = H.agrees.financed ∙ H.sums.financed;
    }

-- ── Demand 3: its case at a fresh book of any edition, before which nothing was said ──
abbrev pub fresh : ℕ → Ledger
fresh e = start (fresh_model e)

pub none_before : (e : ℕ) → said_before (fresh_model e) ≡ silence
unfolding keys deeds_before originators_before
none_before e = refl

pub holds : (e : ℕ) → listed e ≡ true → (cs : List Command) → Holds (fresh_model e) (from (fresh_model e) cs).history (read (from (fresh_model e) cs).history) (from (fresh_model e) cs).model
holds e l cs = subst (λ (z : Said). Holds (fresh_model e) (from (fresh_model e) cs).history (read_after z (from (fresh_model e) cs).history) (from (fresh_model e) cs).model) (none_before e) (holds_since (fresh_model e) (fresh_model_lem e l) cs)

fresh_meets : (e : ℕ) {h : List Command} {m : Model} → MeetsSince (fresh_model e) h m → Meets h m
unfolding keys deeds_before originators_before find sum offered
fresh_meets e {h} F = record {
  offereds = λ a. F.offereds a ∙ +ℤ_idl (offered (read h) a);
  accepteds = λ a. F.accepteds a ∙ +ℤ_idl (accepted (read h) a);
  balances = λ a. F.balances a ∙ +ℤ_idl (balance (read h) a);
  all_balances = F.all_balances ∙ +ℤ_idl (together (read h));
  financed_total = F.financed_total ∙ +ℤ_idl (financed (read h));
}

pub demand-3 : (e : ℕ) → listed e ≡ true → (cs : List Command) → Meets (from (fresh_model e) cs).history (from (fresh_model e) cs).model
demand-3 e l cs = fresh_meets e (since (fresh_model e) (fresh_model_lem e l) cs)
