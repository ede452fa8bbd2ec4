-- The book of the code: a book passes the test just where its model is sound, and every command leaves it so
use Rattle.std.specs.Prelude.{◌≡◌, true, List, [], ◌∷◌}
use Rattle.std.proofs.Common.{ap, ◌∙◌}
use Rattle.refusal.specs.ChoiceLaws.{pick_on}
use Rattle.refusal.specs.Rule.{after, answered}
use Rattle.shelves.specs.Sized.{Sized}
use Rattle.shelves.specs.Accounts.{stored_accounts, accounts_test}
use Rattle.shelves.specs.Invoices.{stored_invoices, invoices_test}
use Rattle.shelves.specs.Offers.{stored_deals, deals_test, WholeDeals}
use Rattle.shelves.specs.Laws.{accounts_keeping, accounts_sound, accounts_pass, invoices_keeping, invoices_sound, invoices_pass}
use Rattle.shelves.specs.OfferLaws.{deals_keeping, deals_sound, deals_pass}
use Rattle.command.specs.declared.Command.{Command}
use Rattle.book.specs.declared.Book.{Book}
use Rattle.rules.specs.Model.{Model}
use Rattle.rules.specs.Rules.{commanded}
use Rattle.book.specs.Stored.{model_of, stored, step_of, book_test, answers}
use Rattle.book.specs.Shelving.{fits_of}
use Rattle.book.specs.Tested.{tests_of, shelved_of}
use Rattle.soundness.specs.Sound.{ModelSound}
use Rattle.soundness.specs.Keeps.{stays_sound}
use Rattle.soundness.specs.Played.{played}

-- what the types of a book's arrays say
pub record Typed (b : Book) : Type 0 where
  pub accounts : Sized b.accounts.ids b.accounts.rows
  pub invoices : Sized b.invoices.ids b.invoices.rows
  pub offers : WholeDeals b.offers

pub model_sound : (b : Book) → Typed b → book_test b ≡ true → ModelSound (model_of b)
model_sound b y e =
    let t = tests_of b e in
    record {
      fits = fits_of (shelved_of b y.accounts y.invoices y.offers e);
      accounts = accounts_sound b.accounts y.accounts t.accounts;
      invoices = invoices_sound b.invoices y.invoices t.invoices;
      offers = deals_sound b.settings.edition b.offers y.offers t.offers;
      totals = t.totals;
      settings = t.settings;
    }

module _ {m : Model} (s : ModelSound m) where
  accounts_in : accounts_test (stored_accounts m.accounts) ≡ true
  accounts_in = accounts_pass (stored_accounts m.accounts) (accounts_keeping.good s.fits.accounts) (rw (accounts_keeping.back s.fits.accounts) s.accounts)

  invoices_in : invoices_test (stored_invoices m.invoices) ≡ true
  invoices_in = invoices_pass (stored_invoices m.invoices) (invoices_keeping.good s.fits.invoices) (rw (invoices_keeping.back s.fits.invoices) s.invoices)

  offers_in_lem : deals_test m.settings.edition (stored_deals m.offers) ≡ true
  offers_in_lem = deals_pass m.settings.edition (deals_keeping.good s.fits.offers) (rw (deals_keeping.back s.fits.offers) s.offers)

  pub book_sound : book_test (stored m) ≡ true
  unfolding book_test
  book_sound = rw (accounts_in, invoices_in, offers_in_lem, s.totals, s.settings)

-- every command on a sound book leaves a sound book
pub sound_kept : (b : Book) (c : Command) → Typed b → book_test b ≡ true → book_test (answers b c).book ≡ true
unfolding answers answered
sound_kept b c y e =
    ap (λ z. book_test z.book) (pick_on (answered step_of (model_of b) (commanded (model_of b) c)) _ e)
    ∙ book_sound (stays_sound (model_sound b y e) c)

-- ── Any commands from a fresh book ────────────────────────────────
pub played_sound : {m : Model} → ModelSound m → (cs : List Command) → ModelSound (played m cs)
unfolding played
played_sound {m = m} s [] = s
played_sound {m = m} s (c ∷ cs) = played_sound {m = after m (commanded m c)} (stays_sound s c) cs

-- so refusal 15 never occurs: each command is answered by its rule
pub never_unsound : {m : Model} → ModelSound m → (cs : List Command) (c : Command)
    → answers (stored (played m cs)) c ≡ answered step_of (model_of (stored (played m cs))) (commanded (model_of (stored (played m cs))) c)
unfolding answers
never_unsound s cs c = pick_on _ _ (book_sound (played_sound s cs))
